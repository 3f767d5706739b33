use Rattle.std.specs.Mem.{FitsInMemory}
use denote.Param.{param}
use Rattle.rcu_part_lists.proofs.Sizes.{in_struct}
use Rattle.rcu_part_group.specs.contracts.members.GroupMember as row
use Rattle.rcu_part_group.proofs.members.GroupMember.drop.Goals as goal

-- the lists are the last field
pub drop-self-requires : goal.drop-self-requires
drop-self-requires g c = let h : FitsInMemory (row.the_row (param 0 g.row.J)) = assumption in in_struct _ _ _ h
