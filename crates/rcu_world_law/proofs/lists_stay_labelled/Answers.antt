use Rattle.rcu_world_law.proofs.Schedules.{every_list}
use Rattle.rcu_world_law.proofs.lists_stay_labelled.Goals as goal

pub returns : goal.returns
returns c = every_list
