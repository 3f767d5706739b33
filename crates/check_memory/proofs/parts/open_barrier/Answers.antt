use Rattle.rcu_board.proofs.Stepping.{same_again}
use Rattle.check_memory.proofs.parts.open_barrier.Goals as goal

pub returns : goal.returns
returns c = same_again _ _ _ _ _ _ c.barrier.ensures.same c.poll.ensures.same
