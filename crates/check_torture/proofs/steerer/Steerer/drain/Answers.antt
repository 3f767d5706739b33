use Rattle.rcu_board.proofs.Stepping.{same_again}
use Rattle.check_torture.proofs.steerer.Steerer.drain.Goals as goal

pub returns-clause-steers : goal.returns-clause-steers
returns-clause-steers g c = same_again _ _ _ _ _ _ c.open_barrier.ensures.steers.steers c.wait-passed.ensures.same
