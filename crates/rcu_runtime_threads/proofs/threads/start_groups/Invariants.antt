use Rattle.std.proofs.Common.{◌≡◌, ◌+◌, ◌≤◌, ◌++◌, length, vec_len, vec_capacity}
use Rattle.std.specs.List.{AllZip}
use Rattle.rcu_runtime_threads.specs.Crews.{HasBegun}
use Rattle.rcu_runtime_threads.specs.Stays.{GroupStays}
use Rattle.rcu_runtime_threads.proofs.threads.start_groups.Given as goal

abbrev pub invariant-loop-group : goal.invariant-loop-group
invariant-loop-group g l = record {
  order : l.yielded ++ l.group-iterator.rest.items ≡ l.fn.groups.items;
  room : vec_len l.started + length l.group-iterator.rest.items ≤ vec_capacity l.started;
  ended : vec_len l.started + length l.group-iterator.rest.items ≤ vec_capacity l.fn.room.ended;
  started : AllZip (HasBegun (λ thread. thread.promise.0.value) GroupStays) l.yielded l.started.items;
}
