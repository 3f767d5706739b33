use Rattle.rcu_agreement.proofs.ReadSections.{runs_before, waits}
use Rattle.rcu_agreement.proofs.readers_are_waited_for.Goals as goal

pub returns : goal.returns
returns c = record { waits = waits; runs_before = runs_before }
