use Rattle.std.proofs.Common.{refl, subst, sym}
use Rattle.std.specs.declared.result.Result.TheVariants.{Ok}
use Rattle.rcu_c_slots.specs.Polls.{StartsPollBy}
use Rattle.rcu_c_slots.specs.declared.part.Part.TheVariants as part
use Rattle.rcu_c_slots.proofs.Jobs.{cpu_fits, job_sends, receipt_sends}
use Rattle.rcu_c_slots.proofs.part.Part.start_poll.Goals as goal

pub returns-in-Control : goal.returns-in-Control
returns-in-Control c = let e = c.start_poll.ensures in subst (λ old. StartsPollBy (Ok c.start_poll.result) old (part.Control c.start_poll.new.self)) (sym c.in-Control.is) (record {
  answer = c.start_poll.result;
  after = c.start_poll.new.self;
  result_is = refl;
  new_is = refl;
  does = record { same = e.same; cookie_is = e.cookie; asked = e.asked; later = e.later };
})

pub returns-in-Processor : goal.returns-in-Processor
returns-in-Processor c = subst (λ old. StartsPollBy c.start_poll-in-Processor.result old (part.Processor c.start_poll-in-Processor.new.self)) (sym c.in-Processor.is) (c.start_poll-in-Processor.new.self, refl, c.start_poll-in-Processor.ensures)
