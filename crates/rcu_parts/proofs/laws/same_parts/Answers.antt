use Rattle.rcu_parts.proofs.StaySame.{stay_same}
use Rattle.rcu_parts.proofs.laws.same_parts.Goals as goal

pub returns : goal.returns
returns g c = record { one = λ old new s o. stay_same old new s o }
