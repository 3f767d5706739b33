use Rattle.std.proofs.Common.{List, ◌+◌, ◌≤◌, ◌∙◌, sym, subst, length, vec_len, vec_capacity}
use Rattle.rcu_jobs.specs.declared.callback.Callback.{Callback}
use Rattle.rcu_lanes.specs.Ends.{items_left}
use Rattle.rcu_part_close.specs.Moving.{Takes}
use Rattle.rcu_part_close.proofs.Endings.{fewer, lane_len, lane_room, lane_taken}
use Rattle.rcu_part_close.proofs.taken.take_lane.Goals as goal

pub loop-parcel-preserved : goal.loop-parcel-preserved
loop-parcel-preserved g c =
    let i = c.loop-parcel.invariant in
    let t = subst (λ cs. Takes cs c.loop-parcel.jobs c.take_batch.new.jobs) c.load.ensures.items c.take_batch.ensures.takes in
    record {
      jobs = lane_taken c.in-Some.parcel _ _ c.loop-parcel.jobs c.take_batch.new.jobs _ c.in-Some.ensures t i.jobs;
      len = lane_len c.in-Some.parcel _ _ c.loop-parcel.jobs c.take_batch.new.jobs _ c.in-Some.ensures t i.len;
      none = c.take_batch.ensures.left;
      room = t.room ∙ i.room;
    }

pub loop-parcel-smaller : goal.loop-parcel-smaller
loop-parcel-smaller g c = fewer (items_left c.loop-parcel.lane) (items_left c.take.new.self) c.in-Some.parcel c.in-Some.ensures

pub load-requires : goal.load-requires
load-requires g c = (assumption, c.loop-parcel.invariant.none)

pub take_batch-requires : goal.take_batch-requires
take_batch-requires g c = (
  assumption,
  subst (λ (cs : List (Callback g.row.J.Denot)). vec_len c.loop-parcel.jobs + length cs ≤ vec_capacity c.loop-parcel.jobs) (sym c.load.ensures.items)
      (lane_room c.in-Some.parcel _ _ _ _ _ _ c.in-Some.ensures c.loop-parcel.invariant.len c.loop-parcel.invariant.room c.requires.room),
)
