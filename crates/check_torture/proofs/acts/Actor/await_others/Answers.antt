use Rattle.std.proofs.Common.{◌∙◌, refl}
use Rattle.check_torture.proofs.Keeping.{keeps_again, keeps_none}
use Rattle.check_torture.proofs.acts.Actor.await_others.Goals as goal

pub loop-init : goal.loop-init
loop-init c = record { goes_on = keeps_none _ _; keys = refl }

pub loop-preserved : goal.loop-preserved
loop-preserved c = let before = c.loop.invariant in let act = c.act.ensures in record { goes_on = keeps_again _ _ _ _ _ _ before.goes_on act.goes_on; keys = act.keys ∙ before.keys }

pub returns-then-is_last : goal.returns-then-is_last
returns-then-is_last c = c.loop.invariant
