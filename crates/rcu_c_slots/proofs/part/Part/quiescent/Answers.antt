use Rattle.std.proofs.Common.{ap, refl, subst, sym}
use Rattle.std.specs.declared.result.Result.TheVariants.{Err, Ok}
use Rattle.rcu_c_slots.specs.Processors.{ReportsBy}
use Rattle.rcu_c_slots.specs.declared.part.Part.TheVariants as part
use Rattle.rcu_c_slots.proofs.part.Part.quiescent.Goals as goal

pub returns-in-Processor : goal.returns-in-Processor
returns-in-Processor c = subst (λ old. ReportsBy (Ok c.quiescent.result) old (part.Processor c.quiescent.new.self)) (sym c.in-Processor.is) (record {
  answer = c.quiescent.result;
  after = c.quiescent.new.self;
  result_is = refl;
  new_is = refl;
  does = c.quiescent.ensures;
})
