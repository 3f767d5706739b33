use Rattle.std.proofs.Common.{◌≡◌, [], ◌+◌, ◌++◌, length, vec_len, vec_capacity}
use Rattle.std.specs.List.{flat_map}
use Rattle.rcu_lanes.specs.Ends.{items_left}
use Rattle.rcu_lists.specs.Batches.{batch_items}
use Rattle.rcu_lists.specs.Parcels.{parcel_items}
use Rattle.rcu_part_close.specs.Moving.{jobs_of}
use Rattle.rcu_part_close.proofs.taken.take_lane.Given as goal

abbrev pub invariant-loop-parcel : goal.invariant-loop-parcel
invariant-loop-parcel g l = record {
  jobs : l.jobs.items ++ jobs_of (flat_map parcel_items (items_left l.lane)) ≡ l.fn.jobs.items ++ jobs_of (flat_map parcel_items (items_left l.fn.lane));
  len : vec_len l.jobs + length (flat_map parcel_items (items_left l.lane)) ≡ vec_len l.fn.jobs + length (flat_map parcel_items (items_left l.fn.lane));
  none : batch_items l.batch ≡ [];
  room : vec_capacity l.jobs ≡ vec_capacity l.fn.jobs;
}

abbrev pub decreases-loop-parcel : goal.decreases-loop-parcel
decreases-loop-parcel g l = length (items_left l.lane)
