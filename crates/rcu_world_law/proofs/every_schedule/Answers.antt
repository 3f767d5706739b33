use Rattle.rcu_world_law.proofs.Schedules.{every_schedule, every_close, every_record}
use Rattle.rcu_world_law.proofs.every_schedule.Goals as goal

pub returns-clause-lawful : goal.returns-clause-lawful
returns-clause-lawful c = every_schedule

pub returns-clause-closed : goal.returns-clause-closed
returns-clause-closed c = every_close

pub returns-clause-recorded : goal.returns-clause-recorded
returns-clause-recorded c = every_record
