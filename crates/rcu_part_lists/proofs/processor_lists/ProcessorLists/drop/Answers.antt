use denote.Param.{param}
use Rattle.rcu_part_lists.proofs.Sizes.{processor_lists-bypass}
use Rattle.rcu_lists.proofs.Sizes.{bypass-batch, in_places}
use Rattle.rcu_part_lists.proofs.processor_lists.ProcessorLists.drop.Goals as goal

pub array_drop-self-requires : goal.array_drop-self-requires
array_drop-self-requires g c = in_places _ _ _ _ _ _ _ _ _ _ _ _ _ _ _ _ _ _ _ _ (bypass-batch (param 0 g.row.J) (processor_lists-bypass (param 0 g.row.J) assumption))
