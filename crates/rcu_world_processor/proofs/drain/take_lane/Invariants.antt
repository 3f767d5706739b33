use Rattle.std.proofs.Common.{◌≡◌, map, ◌++◌, length, vec_len, vec_capacity, ◌≤◌, ◌+◌}
use Rattle.rcu_world_law.specs.Places.{key_of, flattened}
use Rattle.rcu_world_processor.specs.Batches.{batches}
use Rattle.rcu_world_processor.proofs.drain.take_lane.Given as goal

abbrev pub invariant-loop-lane : goal.invariant-loop-lane
invariant-loop-lane g l = record {
  keys : map g.J.Job.key_of l.jobs.items ++ map key_of (flattened (batches g.J.Job.key_of l.lane.items)) ≡ map g.J.Job.key_of l.fn.jobs.items ++ map key_of (flattened (batches g.J.Job.key_of l.fn.lane.items));
  len : vec_len l.jobs + length (flattened (batches g.J.Job.key_of l.lane.items)) ≡ vec_len l.fn.jobs + length (flattened (batches g.J.Job.key_of l.fn.lane.items));
  capacity : vec_capacity l.fn.jobs ≤ vec_capacity l.jobs;
}

abbrev pub decreases-loop-lane : goal.decreases-loop-lane
decreases-loop-lane g l = length (batches g.J.Job.key_of l.lane.items)
