use denote.Param.{param}
use Rattle.rcu_part_lists.proofs.Sizes.{member-batch}
use Rattle.rcu_lists.proofs.Sizes.{in_places}
use Rattle.rcu_part_lists.proofs.member_lists.MemberLists.drop.Goals as goal

pub array_drop-self-requires : goal.array_drop-self-requires
array_drop-self-requires g c = in_places _ _ _ _ _ _ _ _ _ _ _ _ _ _ _ _ _ _ _ _ (member-batch (param 0 g.row.J) assumption)

pub array_drop-self-requires-2 : goal.array_drop-self-requires-2
array_drop-self-requires-2 g c = in_places _ _ _ _ _ _ _ _ _ _ _ _ _ _ _ _ _ _ _ _ (member-batch (param 0 g.row.J) assumption)
