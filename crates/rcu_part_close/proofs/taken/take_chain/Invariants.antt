use Rattle.std.proofs.Common.{◌≡◌, ◌+◌, ◌++◌, length, vec_len, vec_capacity}
use Rattle.rcu_lists.specs.Chains.{chain_items}
use Rattle.rcu_part_close.specs.Moving.{jobs_of}
use Rattle.rcu_part_close.proofs.taken.take_chain.Given as goal

abbrev pub invariant-loop-callback : goal.invariant-loop-callback
invariant-loop-callback g l = record {
  jobs : l.jobs.items ++ jobs_of (chain_items l.list) ≡ l.fn.jobs.items ++ jobs_of (chain_items l.fn.list);
  len : vec_len l.jobs + length (chain_items l.list) ≡ vec_len l.fn.jobs + length (chain_items l.fn.list);
  room : vec_capacity l.jobs ≡ vec_capacity l.fn.jobs;
}

abbrev pub decreases-loop-callback : goal.decreases-loop-callback
decreases-loop-callback g l = length (chain_items l.list)
