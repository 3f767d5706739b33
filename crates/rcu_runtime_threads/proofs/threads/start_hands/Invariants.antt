use Rattle.std.proofs.Common.{◌≡◌, ◌+◌, ◌≤◌, ◌++◌, length, vec_len, vec_capacity}
use Rattle.std.specs.List.{AllZip}
use Rattle.rcu_runtime_threads.specs.Crews.{HasBegun}
use Rattle.rcu_runtime_threads.specs.Stays.{HandStays}
use Rattle.rcu_runtime_threads.proofs.threads.start_hands.Given as goal

abbrev pub invariant-loop-hand : goal.invariant-loop-hand
invariant-loop-hand g l = record {
  order : l.yielded ++ l.hand-iterator.rest.items ≡ l.fn.hands.items;
  room : vec_len l.started + length l.hand-iterator.rest.items ≤ vec_capacity l.started;
  ended : vec_len l.started + length l.hand-iterator.rest.items ≤ vec_capacity l.fn.room.ended;
  started : AllZip (HasBegun (λ thread. thread.promise.0.value) (HandStays g.J.Job.key_of g.J.Job.gives)) l.yielded l.started.items;
}
