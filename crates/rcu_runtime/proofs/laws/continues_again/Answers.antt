use Rattle.rcu_runtime.proofs.Wholes as wholes
use Rattle.rcu_runtime.proofs.laws.continues_again.Goals as goal

pub returns : goal.returns
returns g c = record { again = λ old between new a b. wholes.continues_again old between new a b }
