use Rattle.std.proofs.Common.{◌≡◌, ◌∙◌, map, true, false, rules, arith, ap, length}
use Rattle.rcu_world_law.specs.Lists.{is_nil}
use Rattle.rcu_world_processor.specs.Batches.{batch, batches}
use Rattle.rcu_world_processor.proofs.Taking.{batch_less, batch_taken, lane_shorter, lane_taken, none_flattened}
use Rattle.rcu_world_processor.proofs.drain.take_lane.Goals as goal

pub take_jobs-requires-after_bounds : goal.take_jobs-requires-after_bounds
take_jobs-requires-after_bounds g c κs within = let k = g.J.Job.key_of in
    let bs = batches k c.loop-lane.lane.items in
    let e : is_nil bs ≡ false = search rules in
    let l = batch_less (batch k c.take_batch-first.result) bs (batches k c.take_batch-first.new.lane.items) e c.take_batch-first.ensures.first c.take_batch-first.ensures.rest in
    let i = c.loop-lane.invariant in
    (search rules, omega (arith, l, i.len, i.capacity, c.requires))

pub loop-lane-smaller-in-loop-lane : goal.loop-lane-smaller-in-loop-lane
loop-lane-smaller-in-loop-lane g c = let k = g.J.Job.key_of in
    let e : is_nil (batches k c.loop-lane.lane.items) ≡ false = search rules in
    lane_shorter (batches k c.loop-lane.lane.items) (batches k c.take_batch-first.new.lane.items) e c.take_batch-first.ensures.rest

pub loop-lane-preserved-in-loop-lane : goal.loop-lane-preserved-in-loop-lane
loop-lane-preserved-in-loop-lane g c = let k = g.J.Job.key_of in
    let bs = batches k c.loop-lane.lane.items in
    let i = c.loop-lane.invariant in
    let e : is_nil bs ≡ false = search rules in
    let l = batch_less (batch k c.take_batch-first.result) bs (batches k c.take_batch-first.new.lane.items) e c.take_batch-first.ensures.first c.take_batch-first.ensures.rest in
    record {
      keys = batch_taken _ (map k c.loop-lane.jobs.items) (batch k c.take_batch-first.result) bs (batches k c.take_batch-first.new.lane.items) e c.take_batch-first.ensures.first c.take_batch-first.ensures.rest c.take_jobs.ensures.jobs.keys ∙ i.keys;
      len = omega (arith, l, c.take_jobs.ensures.jobs.len, i.len);
      capacity = omega (arith, c.take_jobs.ensures.jobs.capacity, i.capacity);
    }

pub loop-lane-smaller : goal.loop-lane-smaller
loop-lane-smaller g c = let k = g.J.Job.key_of in
    let e : is_nil (batches k c.loop-lane.lane.items) ≡ false = search rules in
    lane_shorter (batches k c.loop-lane.lane.items) (batches k c.take_batch-first.new.lane.items) e c.take_batch-first.ensures.rest

pub loop-lane-preserved : goal.loop-lane-preserved
loop-lane-preserved g c = let k = g.J.Job.key_of in
    let bs = batches k c.loop-lane.lane.items in
    let i = c.loop-lane.invariant in
    let e : is_nil bs ≡ false = search rules in
    let l = batch_less (batch k c.take_batch-first.result) bs (batches k c.take_batch-first.new.lane.items) e c.take_batch-first.ensures.first c.take_batch-first.ensures.rest in
    record {
      keys = batch_taken _ (map k c.loop-lane.jobs.items) (batch k c.take_batch-first.result) bs (batches k c.take_batch-first.new.lane.items) e c.take_batch-first.ensures.first c.take_batch-first.ensures.rest c.take_jobs.ensures.jobs.keys ∙ i.keys;
      len = omega (arith, l, c.take_jobs.ensures.jobs.len, i.len);
      capacity = omega (arith, c.take_jobs.ensures.jobs.capacity, i.capacity);
    }

pub returns : goal.returns
returns g c = record {
  jobs = record {
    keys = (
        let e : is_nil (batches g.J.Job.key_of c.loop-lane.lane.items) ≡ true = search rules in lane_taken _ _ (batches g.J.Job.key_of c.loop-lane.lane.items) e c.loop-lane.invariant.keys
        );
    len = (
        let e : is_nil (batches g.J.Job.key_of c.loop-lane.lane.items) ≡ true = search rules in omega (arith, ap length (none_flattened (batches g.J.Job.key_of c.loop-lane.lane.items) e), c.loop-lane.invariant.len)
        );
    capacity = search rules;
  };
}
