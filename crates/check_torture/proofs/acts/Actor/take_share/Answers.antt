use Rattle.check_torture.proofs.Keeping.{keeps_again, keeps_none}
use Rattle.check_torture.proofs.acts.Actor.take_share.Goals as goal

pub loop-init : goal.loop-init
loop-init c = keeps_none _ _

pub loop-preserved : goal.loop-preserved
loop-preserved c = keeps_again _ _ _ _ _ _ c.loop.invariant c.round-called.ensures

pub returns-then-has_accepted : goal.returns-then-has_accepted
returns-then-has_accepted c = c.loop.invariant

pub returns-then-eq : goal.returns-then-eq
returns-then-eq c = keeps_again _ _ _ _ _ _ c.loop.invariant c.round-called.ensures

pub returns : goal.returns
returns c = c.loop.invariant
