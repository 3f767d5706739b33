use denote.Param.{param}
use Rattle.rcu_part_lists.proofs.Sizes.{processor_lists-bypass}
use Rattle.rcu_part_lists.proofs.processor_lists.ProcessorLists.lists.Goals as goal

pub len-requires : goal.len-requires
len-requires g c = processor_lists-bypass (param 0 g.row.J) assumption
