use Rattle.check_torture.proofs.Keeping.{keeps_again, keeps_none}
use Rattle.check_torture.proofs.actors.take_in_parts.Goals as goal

pub loop-part-init : goal.loop-part-init
loop-part-init c = keeps_none _ _

pub loop-part-preserved : goal.loop-part-preserved
loop-part-preserved c = keeps_again _ _ _ _ _ _ c.loop-part.invariant (keeps_again _ _ _ _ _ _ c.take_share.ensures c.away_for_a_while-actor.ensures.goes_on)

pub returns : goal.returns
returns c = keeps_again _ _ _ _ _ _ c.loop-part.invariant c.take_share-2.ensures
