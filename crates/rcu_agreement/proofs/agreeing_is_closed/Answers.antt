use Rattle.rcu_agreement.proofs.Histories.{closed}
use Rattle.rcu_agreement.proofs.agreeing_is_closed.Goals as goal

pub returns : goal.returns
returns c = record { closed = closed }
