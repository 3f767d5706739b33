use Rattle.std.proofs.Common.{refl}
use Rattle.rcu_world_processor.proofs.Sizes.{batch_fits, slots_fit}
use Rattle.rcu_world_processor.proofs.processor.WorldProcessor+J+J+Receipt.into_records.Goals as goal

pub array_drop-held-requires : goal.array_drop-held-requires
array_drop-held-requires g c = slots_fit _ _ _ _ _ _ _ (batch_fits g.row.J g.row.J-Receipt assumption)

pub array_drop-out-requires : goal.array_drop-out-requires
array_drop-out-requires g c = slots_fit _ _ _ _ _ _ _ (batch_fits g.row.J g.row.J-Receipt assumption)

pub array_drop-drawn-requires : goal.array_drop-drawn-requires
array_drop-drawn-requires g c = slots_fit _ _ _ _ _ _ _ (batch_fits g.row.J g.row.J-Receipt assumption)

pub array_drop-bypass-requires : goal.array_drop-bypass-requires
array_drop-bypass-requires g c = slots_fit _ _ _ _ _ _ _ (batch_fits g.row.J g.row.J-Receipt assumption)

-- what is in the lanes
pub drop-lane-requires-room-T-Destruct : goal.drop-lane-requires-room-T-Destruct
drop-lane-requires-room-T-Destruct g c κs within = batch_fits g.row.J g.row.J-Receipt assumption

pub drop-done_lane-requires-room-T-Destruct : goal.drop-done_lane-requires-room-T-Destruct
drop-done_lane-requires-room-T-Destruct g c κs within = batch_fits g.row.J g.row.J-Receipt assumption

pub returns : goal.returns
returns g c = refl
