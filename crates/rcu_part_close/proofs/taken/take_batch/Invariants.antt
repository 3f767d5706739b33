use Rattle.std.proofs.Common.{◌≡◌, ◌+◌, ◌++◌, length, vec_len, vec_capacity}
use Rattle.rcu_lists.specs.Batches.{batch_items}
use Rattle.rcu_part_close.specs.Moving.{jobs_of}
use Rattle.rcu_part_close.proofs.taken.take_batch.Given as goal

abbrev pub invariant-loop-callback : goal.invariant-loop-callback
invariant-loop-callback g l = record {
  jobs : l.jobs.items ++ jobs_of (batch_items l.batch) ≡ l.fn.jobs.items ++ jobs_of (batch_items l.fn.batch);
  len : vec_len l.jobs + length (batch_items l.batch) ≡ vec_len l.fn.jobs + length (batch_items l.fn.batch);
  room : vec_capacity l.jobs ≡ vec_capacity l.fn.jobs;
}

abbrev pub decreases-loop-callback : goal.decreases-loop-callback
decreases-loop-callback g l = length (batch_items l.batch)
