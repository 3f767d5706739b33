use Rattle.std.proofs.Common.{ap, ◌∙◌, refl, subst}
use Rattle.rcu_c_slots.specs.declared.part.Part.TheVariants as part
use Rattle.std.specs.declared.result.Result.TheVariants.{Ok}
use Rattle.rcu_c_slots.specs.Away.{ReturnsBy}
use Rattle.rcu_c_slots.proofs.part.Part.come_back.Goals as goal

pub returns-in-Away : goal.returns-in-Away
returns-in-Away c = subst (λ old. ReturnsBy (Ok tt) old c.fill.new.self) c.in-Away.ensures.value (refl, (c.return_one.result, c.fill.ensures ∙ ap part.Processor c.new.ensures, c.return_one.ensures))
