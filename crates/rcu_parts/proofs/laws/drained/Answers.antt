use Rattle.rcu_parts.proofs.Draining.{drained_none_back, stays_drained}
use Rattle.rcu_parts.proofs.laws.drained.Goals as goal

pub returns : goal.returns
returns g c = record {
  stays = λ counts old new same one drained. stays_drained counts old new same one drained;
  none_back = λ counts parts closed one drained closes. drained_none_back counts parts drained closed one closes;
}
