use Rattle.std.proofs.Common.{ap, refl, subst, sym}
use Rattle.std.specs.declared.result.Result.TheVariants.{Err, Ok}
use Rattle.rcu_c_slots.specs.Runs.{FinishesBy}
use Rattle.rcu_c_slots.specs.declared.part.Part.TheVariants as part
use Rattle.rcu_c_slots.proofs.part.Part.finish.Goals as goal

pub returns-in-Processor : goal.returns-in-Processor
returns-in-Processor c = subst (λ old. FinishesBy c.finish.result old (part.Processor c.finish.new.self)) (sym c.in-Processor.is) (c.finish.new.self, refl, c.finish.ensures)

pub returns-in-Hand : goal.returns-in-Hand
returns-in-Hand c = subst (λ old. FinishesBy c.finish-in-Hand.result old (part.Hand c.finish-in-Hand.new.self)) (sym c.in-Hand.is) (c.finish-in-Hand.new.self, refl, c.finish-in-Hand.ensures)
