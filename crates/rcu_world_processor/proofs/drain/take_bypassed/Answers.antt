use Rattle.std.proofs.Common.{rules}
use Rattle.rcu_world_law.specs.Places.{flattened}
use Rattle.rcu_world_processor.specs.Batches.{batch, batches, bypassed}
use Rattle.rcu_world_processor.proofs.Taking.{first_fits, rest_fits, three_fit, three_keys, three_len}
use Rattle.rcu_world_processor.proofs.drain.take_bypassed.Goals as goal

pub take_jobs-requires-after_bounds : goal.take_jobs-requires-after_bounds
take_jobs-requires-after_bounds g c κs within = let f0 = three_fit (batch g.J.Job.key_of c.args.drawn.now) (flattened (batches g.J.Job.key_of c.args.lane.now.items)) (bypassed g.J.Job.key_of c.args.bypass.now) _ _ c.requires in
    (search rules, first_fits _ _ _ _ f0)

pub take_lane-requires-after_bounds : goal.take_lane-requires-after_bounds
take_lane-requires-after_bounds g c κs within = let f0 = three_fit (batch g.J.Job.key_of c.args.drawn.now) (flattened (batches g.J.Job.key_of c.args.lane.now.items)) (bypassed g.J.Job.key_of c.args.bypass.now) _ _ c.requires in
    let f1 = rest_fits _ _ _ _ _ _ f0 c.take_jobs.ensures.jobs.len c.take_jobs.ensures.jobs.capacity in
    (search rules, first_fits _ _ _ _ f1)

pub take_bypass-requires-after_bounds : goal.take_bypass-requires-after_bounds
take_bypass-requires-after_bounds g c κs within = let f0 = three_fit (batch g.J.Job.key_of c.args.drawn.now) (flattened (batches g.J.Job.key_of c.args.lane.now.items)) (bypassed g.J.Job.key_of c.args.bypass.now) _ _ c.requires in
    let f1 = rest_fits _ _ _ _ _ _ f0 c.take_jobs.ensures.jobs.len c.take_jobs.ensures.jobs.capacity in
    let f2 = rest_fits _ _ _ _ _ _ f1 c.take_lane.ensures.jobs.len c.take_lane.ensures.jobs.capacity in
    (search rules, f2)

pub returns : goal.returns
returns g c = record {
  jobs = record {
    keys = three_keys (batch g.J.Job.key_of c.args.drawn.now) (flattened (batches g.J.Job.key_of c.args.lane.now.items)) (bypassed g.J.Job.key_of c.args.bypass.now) _ _ _ _
        c.take_jobs.ensures.jobs.keys c.take_lane.ensures.jobs.keys c.take_bypass.ensures.jobs.keys;
    len = three_len (batch g.J.Job.key_of c.args.drawn.now) (flattened (batches g.J.Job.key_of c.args.lane.now.items)) (bypassed g.J.Job.key_of c.args.bypass.now) _ _ _ _
        c.take_jobs.ensures.jobs.len c.take_lane.ensures.jobs.len c.take_bypass.ensures.jobs.len;
    capacity = search rules;
  };
}
