use Rattle.std.specs.Mem.{FitsInMemory}
use denote.Param.{param}
use Rattle.rcu_part_lists.proofs.Sizes.{in_struct}
use Rattle.rcu_part_processor.specs.contracts.running_processor.RunningProcessor as row
use Rattle.rcu_part_processor.proofs.running_processor.RunningProcessor.lists.Goals as goal

pub lists-requires : goal.lists-requires
lists-requires g c = let h : FitsInMemory (row.the_row (param 0 g.row.J) (param 1 g.row.J-Receipt)) = assumption in in_struct _ _ _ (in_struct _ _ _ h)

pub returns : goal.returns
returns g c = c.lists.ensures
