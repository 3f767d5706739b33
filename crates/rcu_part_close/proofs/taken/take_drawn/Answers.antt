use Rattle.std.proofs.Common.{◌++◌}
use Rattle.std.specs.List.{flat_map}
use Rattle.rcu_lanes.specs.Ends.{items_left}
use Rattle.rcu_lists.specs.Batches.{batch_items}
use Rattle.rcu_lists.specs.Chains.{chain_items}
use Rattle.rcu_lists.specs.Parcels.{parcel_items}
use Rattle.rcu_part_close.proofs.Endings.{first_fits, rest_fits, takes_then}
use Rattle.rcu_part_close.proofs.taken.take_drawn.Goals as goal

pub take_lane-requires : goal.take_lane-requires
take_lane-requires g c =
    let l = chain_items c.args.list in
    let o = batch_items c.args.out.now in
    let d = flat_map parcel_items (items_left c.args.done_lane) in
    let h = batch_items c.args.held.now in
    (assumption, (c.take_batch.ensures.left, first_fits _ _ d (o ++ l) (rest_fits h (d ++ (o ++ l)) _ _ c.take_batch.ensures.takes c.requires)))

pub take_batch-requires-2 : goal.take_batch-requires-2
take_batch-requires-2 g c =
    let l = chain_items c.args.list in
    let o = batch_items c.args.out.now in
    let d = flat_map parcel_items (items_left c.args.done_lane) in
    let h = batch_items c.args.held.now in
    (assumption, first_fits _ _ o l (rest_fits d (o ++ l) _ _ c.take_lane.ensures (rest_fits h (d ++ (o ++ l)) _ _ c.take_batch.ensures.takes c.requires)))

pub take_chain-requires : goal.take_chain-requires
take_chain-requires g c =
    let l = chain_items c.args.list in
    let o = batch_items c.args.out.now in
    let d = flat_map parcel_items (items_left c.args.done_lane) in
    let h = batch_items c.args.held.now in
    rest_fits o l _ _ c.take_batch-2.ensures.takes (rest_fits d (o ++ l) _ _ c.take_lane.ensures (rest_fits h (d ++ (o ++ l)) _ _ c.take_batch.ensures.takes c.requires))

pub returns : goal.returns
returns g c =
    let l = chain_items c.args.list in
    let o = batch_items c.args.out.now in
    let d = flat_map parcel_items (items_left c.args.done_lane) in
    let h = batch_items c.args.held.now in
    takes_then h (d ++ (o ++ l)) _ _ _ c.take_batch.ensures.takes (takes_then d (o ++ l) _ _ _ c.take_lane.ensures (takes_then o l _ _ _ c.take_batch-2.ensures.takes c.take_chain.ensures))

pub take_batch-requires : goal.take_batch-requires
take_batch-requires g c =
    let l = chain_items c.args.list in
    let o = batch_items c.args.out.now in
    let d = flat_map parcel_items (items_left c.args.done_lane) in
    let h = batch_items c.args.held.now in
    (assumption, first_fits _ _ h (d ++ (o ++ l)) c.requires)
