use Rattle.std.proofs.Common.{◌≤◌}
use Rattle.rcu_jobs.specs.declared.callback.Record.{Record}
use Rattle.rcu_numbers.specs.Numbers.{snap_of}
use Rattle.rcu_part_order.proofs.Merging.{all_by_number, all_in_order, of_both}
use Rattle.rcu_part_order.proofs.laws.records_in_order.Goals as goal

pub returns-clause-order : goal.returns-clause-order
returns-clause-order g c = all_in_order

pub returns-clause-records : goal.returns-clause-records
returns-clause-records g c = of_both

pub returns-clause-given : goal.returns-clause-given
returns-clause-given g c = all_by_number (λ (r : Record g.row.J-Receipt.Denot). g.J.Job.gives r.key r.receipt)

pub returns-clause-ripe : goal.returns-clause-ripe
returns-clause-ripe g c = all_by_number (λ (r : Record g.row.J-Receipt.Denot). snap_of r.stamp ≤ r.ready)

pub returns-clause-seen : goal.returns-clause-seen
returns-clause-seen g c x = all_by_number (λ (r : Record g.row.J-Receipt.Denot). r.ready ≤ x)
