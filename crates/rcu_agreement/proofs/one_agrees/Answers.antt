use Rattle.rcu_agreement.proofs.Witness.{agrees, agrees_without}
use Rattle.rcu_agreement.proofs.one_agrees.Goals as goal

pub returns : goal.returns
returns c = record { plain = agrees_without; barriers = agrees }
