use Rattle.std.specs.Mem.{FitsInMemory}
use denote.Param.{param}
use Rattle.rcu_part_lists.proofs.Sizes.{in_struct}
use Rattle.rcu_part_group.specs.contracts.group.Group as row
use Rattle.rcu_part_group.proofs.group.Group.drop.Goals as goal

-- the members are the last field of the state, which is the only one of the group
pub drop-self-requires-3 : goal.drop-self-requires-3
drop-self-requires-3 g c = let h : FitsInMemory (row.the_row (param 0 g.row.J) (param 1 g.row.J-Receipt)) = assumption in in_struct _ _ _ (in_struct _ _ _ h)
