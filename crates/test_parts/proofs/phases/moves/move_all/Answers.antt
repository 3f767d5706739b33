use Rattle.rcu_board.proofs.Stepping.{same_again}
use Rattle.test_parts.proofs.phases.moves.move_all.Goals as goal

pub loop-next-preserved-in-Continue-1 : goal.loop-next-preserved-in-Continue-1
loop-next-preserved-in-Continue-1 c = let i = c.loop-next.invariant in let e = c.move_one.ensures in
    record { driver = same_again _ _ _ _ _ _ i.driver e.driver; control = same_again _ _ _ _ _ _ i.control e.control; ours = e.ours }

pub loop-next-preserved : goal.loop-next-preserved
loop-next-preserved c = let i = c.loop-next.invariant in let e = c.move_one.ensures in
    record { driver = same_again _ _ _ _ _ _ i.driver e.driver; control = same_again _ _ _ _ _ _ i.control e.control; ours = e.ours }
