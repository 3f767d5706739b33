use Rattle.rcu_world_processor.proofs.Sizes.{batch_fits, slots_fit}
use Rattle.rcu_world_processor.proofs.processor.WorldProcessor.drop.Goals as goal

pub array_drop-self-requires : goal.array_drop-self-requires
array_drop-self-requires g c = slots_fit _ _ _ _ _ _ _ (batch_fits g.row.J g.row.R assumption)

pub array_drop-self-requires-2 : goal.array_drop-self-requires-2
array_drop-self-requires-2 g c = slots_fit _ _ _ _ _ _ _ (batch_fits g.row.J g.row.R assumption)

pub array_drop-self-requires-3 : goal.array_drop-self-requires-3
array_drop-self-requires-3 g c = slots_fit _ _ _ _ _ _ _ (batch_fits g.row.J g.row.R assumption)

pub array_drop-self-requires-4 : goal.array_drop-self-requires-4
array_drop-self-requires-4 g c = slots_fit _ _ _ _ _ _ _ (batch_fits g.row.J g.row.R assumption)

pub drop-self-requires-3-room-T-Destruct : goal.drop-self-requires-3-room-T-Destruct
drop-self-requires-3-room-T-Destruct g c κs within = batch_fits g.row.J g.row.R assumption

pub drop-self-requires-5-room-T-Destruct : goal.drop-self-requires-5-room-T-Destruct
drop-self-requires-5-room-T-Destruct g c κs within = batch_fits g.row.J g.row.R assumption
