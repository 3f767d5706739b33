use Rattle.rcu_board.proofs.Stepping.{same_again}
use Rattle.rcu_part_control.proofs.driver.Driver.run.Goals as goal

pub returns-then-is_halted-clause-same : goal.returns-then-is_halted-clause-same
returns-then-is_halted-clause-same g c = same_again _ _ _ _ _ _ c.loop.invariant.same c.is_halted.ensures.same

pub loop-preserved : goal.loop-preserved
loop-preserved g c = record { next = tt; finite = tt; same = same_again _ _ _ _ _ _ c.loop.invariant.same (same_again _ _ _ _ _ _ c.is_halted.ensures.same c.turn.ensures.same) }

pub loop-preserved-then-has_moved : goal.loop-preserved-then-has_moved
loop-preserved-then-has_moved g c = record { next = tt; finite = tt; same = same_again _ _ _ _ _ _ c.loop.invariant.same (same_again _ _ _ _ _ _ c.is_halted.ensures.same c.turn.ensures.same) }
