use Rattle.std.proofs.Common.{refl, subst, sym}
use Rattle.std.specs.declared.result.Result.TheVariants.{Ok}
use Rattle.rcu_c_slots.specs.Polls.{PollsStateBy}
use Rattle.rcu_c_slots.specs.declared.part.Part.TheVariants as part
use Rattle.rcu_c_slots.proofs.Jobs.{cpu_fits, job_sends, receipt_sends}
use Rattle.rcu_c_slots.proofs.part.Part.poll_state.Goals as goal

pub returns-in-Control : goal.returns-in-Control
returns-in-Control c = let e = c.poll_state.ensures in subst (λ old. PollsStateBy c.args.cookie (Ok c.poll_state.result) old (part.Control c.poll_state.new.self)) (sym c.in-Control.is) (record {
  answer = c.poll_state.result;
  after = c.poll_state.new.self;
  result_is = refl;
  new_is = refl;
  does = record { same = e.same; looks = e.looks; over = e.elapsed };
})

pub returns-in-Processor : goal.returns-in-Processor
returns-in-Processor c = subst (λ old. PollsStateBy c.args.cookie c.poll_state-in-Processor.result old (part.Processor c.poll_state-in-Processor.new.self)) (sym c.in-Processor.is) (c.poll_state-in-Processor.new.self, refl, c.poll_state-in-Processor.ensures)
