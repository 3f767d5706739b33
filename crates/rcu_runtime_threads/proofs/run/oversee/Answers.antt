use Rattle.rcu_board.proofs.Stepping.{same_again}
use Rattle.rcu_runtime_threads.proofs.run.oversee.Goals as goal

pub returns-clause-same : goal.returns-clause-same
returns-clause-same g c = same_again _ _ _ _ _ _ c.steer.ensures.same c.settle.ensures.same

pub returns-clause-oversees : goal.returns-clause-oversees
returns-clause-oversees g c = record { between = c.steer.new.control; steered = c.steer.ensures.steers; ends = c.settle.ensures.ends }
