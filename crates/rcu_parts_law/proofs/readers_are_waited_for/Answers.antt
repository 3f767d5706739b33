use Rattle.rcu_parts_law.proofs.Lawful.{readers_waited, runs_before_readers}
use Rattle.rcu_parts_law.proofs.readers_are_waited_for.Goals as goal

pub returns : goal.returns
returns g c = record { waits = readers_waited; runs_before = runs_before_readers }
