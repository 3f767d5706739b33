use Rattle.rcu_board.proofs.Stepping.{same_again}
use Rattle.rcu_runtime_threads.proofs.run.pass.Goals as goal

pub returns-clause-same : goal.returns-clause-same
returns-clause-same g c = same_again _ _ _ _ _ _ c.open.ensures.stays c.wait.ensures.same

pub returns-clause-passes : goal.returns-clause-passes
returns-clause-passes g c = record { barrier = c.open.result; between = c.open.new.control; opens = c.open.ensures.does; over = c.wait.ensures.over; only = c.wait.ensures.only }
