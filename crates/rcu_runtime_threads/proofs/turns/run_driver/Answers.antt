use Rattle.rcu_board.proofs.Stepping.{same_again, same_part}
use Rattle.rcu_runtime_threads.proofs.turns.run_driver.Goals as goal

pub loop-preserved : goal.loop-preserved
loop-preserved g c = record { next = tt; finite = tt; stays = same_again _ _ _ _ _ _ c.loop.invariant.stays c.turn-turned.ensures.same }

pub loop-init : goal.loop-init
loop-init g c = record { next = tt; finite = tt; stays = same_part _ _ }

pub returns-then-is_over : goal.returns-then-is_over
returns-then-is_over g c = c.loop.invariant.stays

pub unreachable-requires : goal.unreachable-requires
unreachable-requires g c = let z = c.in-None.ensures.steps in cc
