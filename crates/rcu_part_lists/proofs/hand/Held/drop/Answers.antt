use denote.Param.{param}
use Rattle.rcu_part_lists.proofs.Sizes.{held-batch}
use Rattle.rcu_lists.proofs.Sizes.{in_places}
use Rattle.rcu_part_lists.proofs.hand.Held.drop.Goals as goal

pub array_drop-self-requires : goal.array_drop-self-requires
array_drop-self-requires g c = in_places _ _ _ _ _ _ _ _ _ _ _ _ _ _ _ _ _ _ _ _ (held-batch (param 0 g.row.J) assumption)
