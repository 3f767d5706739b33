use Rattle.rcu_world_law.proofs.Schedules.{every_offloaded}
use Rattle.rcu_world_law.proofs.offloaded_runs_nothing.Goals as goal

pub returns : goal.returns
returns c = every_offloaded
