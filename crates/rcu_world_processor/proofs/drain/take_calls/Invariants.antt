use Rattle.std.proofs.Common.{◌≡◌, map, ◌++◌, length, vec_len, vec_capacity, ◌≤◌, ◌+◌}
use Rattle.rcu_world_law.specs.Places.{key_of}
use Rattle.rcu_world_processor.specs.Waits.{calls}
use Rattle.rcu_world_processor.proofs.drain.take_calls.Given as goal

abbrev pub invariant-loop-jobs : goal.invariant-loop-jobs
invariant-loop-jobs g l = record {
  keys : map g.J.Job.key_of l.jobs.items ++ map key_of (calls g.J.Job.key_of l.left.items) ≡ map g.J.Job.key_of l.fn.jobs.items ++ map key_of (calls g.J.Job.key_of l.fn.left.items);
  len : vec_len l.jobs + length (calls g.J.Job.key_of l.left.items) ≡ vec_len l.fn.jobs + length (calls g.J.Job.key_of l.fn.left.items);
  capacity : vec_capacity l.fn.jobs ≤ vec_capacity l.jobs;
}

abbrev pub decreases-loop-jobs : goal.decreases-loop-jobs
decreases-loop-jobs g l = length (calls g.J.Job.key_of l.left.items)
