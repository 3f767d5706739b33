use Rattle.std.specs.List.{flat_map}
use Rattle.rcu_lanes.specs.Ends.{items_left}
use Rattle.rcu_lists.specs.Batches.{batch_items}
use Rattle.rcu_lists.specs.Parcels.{parcel_items}
use Rattle.rcu_part_close.proofs.Endings.{first_fits, rest_fits, takes_then}
use Rattle.rcu_part_close.proofs.taken.take_undrawn.Goals as goal

pub take_batch-requires : goal.take_batch-requires
take_batch-requires g c = (assumption, first_fits _ _ (batch_items c.args.drawn.now) (flat_map parcel_items (items_left c.args.lane)) c.requires)

pub take_lane-requires : goal.take_lane-requires
take_lane-requires g c = (assumption, (c.take_batch.ensures.left, rest_fits (batch_items c.args.drawn.now) (flat_map parcel_items (items_left c.args.lane)) _ _ c.take_batch.ensures.takes c.requires))

pub returns : goal.returns
returns g c = takes_then (batch_items c.args.drawn.now) (flat_map parcel_items (items_left c.args.lane)) _ _ _ c.take_batch.ensures.takes c.take_lane.ensures
