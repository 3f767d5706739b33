use Rattle.std.proofs.Common.{◌≡◌, ◌+◌, ◌++◌, length, vec_len, vec_capacity}
use Rattle.rcu_part_close.specs.Moving.{jobs_of}
use Rattle.rcu_part_close.proofs.taken.take_list.Given as goal

abbrev pub invariant-loop-callback : goal.invariant-loop-callback
invariant-loop-callback g l = record {
  jobs : l.jobs.items ≡ l.fn.jobs.items ++ jobs_of l.yielded;
  len : vec_len l.jobs ≡ vec_len l.fn.jobs + length l.yielded;
  all : length l.yielded + length l.callback-iterator.rest.items ≡ length l.fn.list.items;
  room : vec_capacity l.jobs ≡ vec_capacity l.fn.jobs;
}
