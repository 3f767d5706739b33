use Rattle.std.specs.Mem.{FitsInMemory}
use denote.Param.{param}
use Rattle.rcu_part_lists.proofs.Sizes.{in_struct}
use Rattle.rcu_part_group.specs.contracts.members.GroupMembers as row
use Rattle.rcu_part_group.proofs.members.GroupMembers.drop.Goals as goal

-- the first member is the last field, and the others are like it
pub drop-self-requires-room-T-Destruct : goal.drop-self-requires-room-T-Destruct
drop-self-requires-room-T-Destruct g c κs within = let h : FitsInMemory (row.the_row (param 0 g.row.J)) = assumption in in_struct _ _ _ h

pub drop-self-requires-2 : goal.drop-self-requires-2
drop-self-requires-2 g c = let h : FitsInMemory (row.the_row (param 0 g.row.J)) = assumption in in_struct _ _ _ h
