use Rattle.rcu_runtime.proofs.Wholes as wholes
use Rattle.rcu_runtime.proofs.laws.continues_itself.Goals as goal

pub returns : goal.returns
returns g c = record { itself = λ parts. wholes.continues_itself parts }
