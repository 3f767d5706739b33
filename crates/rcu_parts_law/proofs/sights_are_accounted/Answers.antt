use Rattle.rcu_parts_law.proofs.Sights.{shuts_accounted, turns_accounted}
use Rattle.rcu_parts_law.proofs.sights_are_accounted.Goals as goal

pub returns : goal.returns
returns g c = record { polled = turns_accounted; shut = shuts_accounted }
