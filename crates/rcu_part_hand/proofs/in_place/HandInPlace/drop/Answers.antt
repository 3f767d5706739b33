use Rattle.std.specs.Mem.{FitsInMemory}
use denote.Param.{param}
use Rattle.rcu_part_lists.proofs.Sizes.{in_struct}
use Rattle.rcu_part_hand.specs.contracts.in_place.HandInPlace as row
use Rattle.rcu_part_hand.proofs.in_place.HandInPlace.drop.Goals as goal

-- what it holds is the last field of the state, which is the only one of the hand in place
pub drop-self-requires-4 : goal.drop-self-requires-4
drop-self-requires-4 g c = let h : FitsInMemory (row.the_row (param 0 g.row.J) (param 1 g.row.J-Receipt)) = assumption in in_struct _ _ _ (in_struct _ _ _ (in_struct _ _ _ h))
