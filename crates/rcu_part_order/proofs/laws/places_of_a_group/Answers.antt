use Rattle.rcu_part_order.proofs.Passing.{passed_draws, passed_joins, passed_takes, passed_puts}
use Rattle.rcu_part_order.proofs.laws.places_of_a_group.Goals as goal

pub returns-clause-draws : goal.returns-clause-draws
returns-clause-draws c = passed_draws

pub returns-clause-joins : goal.returns-clause-joins
returns-clause-joins c = passed_joins

pub returns-clause-takes : goal.returns-clause-takes
returns-clause-takes c = passed_takes

pub returns-clause-puts : goal.returns-clause-puts
returns-clause-puts c = passed_puts
