use Rattle.std.proofs.Common.{map, rules}
use Rattle.rcu_world_law.specs.LabelledLists.{call_of}
use Rattle.rcu_world_law.specs.Places.{flattened}
use Rattle.rcu_world_processor.specs.Batches.{batch, batches}
use Rattle.rcu_world_processor.specs.Waits.{waiting}
use Rattle.rcu_world_processor.proofs.Taking.{first_fits, rest_fits, four_fit, four_keys, four_len}
use Rattle.rcu_world_processor.proofs.drain.take_joined.Goals as goal

pub take_jobs-requires-after_bounds : goal.take_jobs-requires-after_bounds
take_jobs-requires-after_bounds g c κs within = let f0 = four_fit (batch g.J.Job.key_of c.args.held.now) (flattened (batches g.J.Job.key_of c.args.done_lane.now.items)) (batch g.J.Job.key_of c.args.out.now) (map call_of (waiting g.J.Job.key_of c.args.joined.now)) _ _ c.requires in
    (search rules, first_fits _ _ _ _ f0)

pub take_lane-requires-after_bounds : goal.take_lane-requires-after_bounds
take_lane-requires-after_bounds g c κs within = let f0 = four_fit (batch g.J.Job.key_of c.args.held.now) (flattened (batches g.J.Job.key_of c.args.done_lane.now.items)) (batch g.J.Job.key_of c.args.out.now) (map call_of (waiting g.J.Job.key_of c.args.joined.now)) _ _ c.requires in
    let f1 = rest_fits _ _ _ _ _ _ f0 c.take_jobs.ensures.jobs.len c.take_jobs.ensures.jobs.capacity in
    (search rules, first_fits _ _ _ _ f1)

pub take_jobs-requires-2-after_bounds : goal.take_jobs-requires-2-after_bounds
take_jobs-requires-2-after_bounds g c κs within = let f0 = four_fit (batch g.J.Job.key_of c.args.held.now) (flattened (batches g.J.Job.key_of c.args.done_lane.now.items)) (batch g.J.Job.key_of c.args.out.now) (map call_of (waiting g.J.Job.key_of c.args.joined.now)) _ _ c.requires in
    let f1 = rest_fits _ _ _ _ _ _ f0 c.take_jobs.ensures.jobs.len c.take_jobs.ensures.jobs.capacity in
    let f2 = rest_fits _ _ _ _ _ _ f1 c.take_lane.ensures.jobs.len c.take_lane.ensures.jobs.capacity in
    (search rules, first_fits _ _ _ _ f2)

pub take_waiting-requires-after_bounds : goal.take_waiting-requires-after_bounds
take_waiting-requires-after_bounds g c κs within = let f0 = four_fit (batch g.J.Job.key_of c.args.held.now) (flattened (batches g.J.Job.key_of c.args.done_lane.now.items)) (batch g.J.Job.key_of c.args.out.now) (map call_of (waiting g.J.Job.key_of c.args.joined.now)) _ _ c.requires in
    let f1 = rest_fits _ _ _ _ _ _ f0 c.take_jobs.ensures.jobs.len c.take_jobs.ensures.jobs.capacity in
    let f2 = rest_fits _ _ _ _ _ _ f1 c.take_lane.ensures.jobs.len c.take_lane.ensures.jobs.capacity in
    let f3 = rest_fits _ _ _ _ _ _ f2 c.take_jobs-2.ensures.jobs.len c.take_jobs-2.ensures.jobs.capacity in
    f3

pub returns : goal.returns
returns g c = record {
  jobs = record {
    keys = four_keys (batch g.J.Job.key_of c.args.held.now) (flattened (batches g.J.Job.key_of c.args.done_lane.now.items)) (batch g.J.Job.key_of c.args.out.now) (map call_of (waiting g.J.Job.key_of c.args.joined.now)) _ _ _ _ _
        c.take_jobs.ensures.jobs.keys c.take_lane.ensures.jobs.keys c.take_jobs-2.ensures.jobs.keys c.take_waiting.ensures.jobs.keys;
    len = four_len (batch g.J.Job.key_of c.args.held.now) (flattened (batches g.J.Job.key_of c.args.done_lane.now.items)) (batch g.J.Job.key_of c.args.out.now) (map call_of (waiting g.J.Job.key_of c.args.joined.now)) _ _ _ _ _
        c.take_jobs.ensures.jobs.len c.take_lane.ensures.jobs.len c.take_jobs-2.ensures.jobs.len c.take_waiting.ensures.jobs.len;
    capacity = search rules;
  };
}
