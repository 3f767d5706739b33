use Rattle.check_torture.proofs.Keeping.{keeps_again, keeps_none}
use Rattle.check_torture.proofs.acts.Actor.round.Goals as goal

pub loop-init : goal.loop-init
loop-init c = keeps_none _ _

pub loop-preserved : goal.loop-preserved
loop-preserved c = keeps_again _ _ _ _ _ _ c.loop.invariant c.act.ensures.goes_on

pub returns : goal.returns
returns c = keeps_again _ _ _ _ _ _ c.loop.invariant c.update-2.ensures
