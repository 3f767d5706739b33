use Rattle.std.proofs.Common.{refl, subst, sym}
use Rattle.std.specs.declared.result.Result.TheVariants.{Ok}
use Rattle.rcu_c_slots.specs.Barriers.{OpensPart}
use Rattle.rcu_c_slots.specs.declared.part.Part.TheVariants as part
use Rattle.rcu_c_slots.proofs.Jobs.{cpu_fits, job_sends, receipt_sends}
use Rattle.rcu_c_slots.proofs.part.Part.barrier.Goals as goal

pub returns-in-Ok : goal.returns-in-Ok
returns-in-Ok c = subst (λ old. OpensPart (Ok c.in-Ok.barrier) old (part.Control c.barrier.new.self)) (sym c.in-Control.is) (record {
  answer = c.in-Ok.barrier;
  after = c.barrier.new.self;
  result_is = refl;
  new_is = refl;
  does = record { same = c.barrier.ensures.same; opens = c.in-Ok.ensures.opens };
})

pub returns-in-Processor : goal.returns-in-Processor
returns-in-Processor c = subst (λ old. OpensPart c.barrier-in-Processor.result old (part.Processor c.barrier-in-Processor.new.self)) (sym c.in-Processor.is) (c.barrier-in-Processor.new.self, refl, c.barrier-in-Processor.ensures)
