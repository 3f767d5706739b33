use Rattle.std.proofs.Common.{◌≡◌, ◌+◌, ◌≤◌, ◌++◌, length, vec_len, vec_capacity}
use Rattle.std.specs.List.{AllZip}
use Rattle.rcu_part_threads.proofs.threads.start_all.Given as goal

abbrev pub invariant-loop-part : goal.invariant-loop-part
invariant-loop-part g l = record {
  order : l.yielded ++ l.part-iterator.rest.items ≡ l.fn.parts.items;
  room : vec_len l.threads + length l.part-iterator.rest.items ≤ vec_capacity l.threads;
  started : AllZip (λ part thread. thread.promise.0.value ≡ part) l.yielded l.threads.items;
}
