use Rattle.check_torture.proofs.Keeping.{keeps_again, keeps_none}
use Rattle.check_torture.proofs.acts.Actor.take_more.Goals as goal

pub returns-then-more-eq0 : goal.returns-then-more-eq0
returns-then-more-eq0 c = keeps_none _ _

pub loop-init : goal.loop-init
loop-init c = c.await_others.ensures.goes_on

pub loop-preserved : goal.loop-preserved
loop-preserved c = keeps_again _ _ _ _ _ _ c.loop.invariant c.round-called.ensures

pub returns-then-eq : goal.returns-then-eq
returns-then-eq c = keeps_again _ _ _ _ _ _ c.loop.invariant c.round-called.ensures

pub returns : goal.returns
returns c = c.loop.invariant
