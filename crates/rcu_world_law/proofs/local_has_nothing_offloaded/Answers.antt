use Rattle.rcu_world_law.proofs.Schedules.{every_local}
use Rattle.rcu_world_law.proofs.local_has_nothing_offloaded.Goals as goal

pub returns : goal.returns
returns c = every_local
