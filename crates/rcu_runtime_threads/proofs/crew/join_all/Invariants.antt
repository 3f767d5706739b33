use Rattle.std.proofs.Common.{◌≡◌, ◌+◌, ◌≤◌, ◌++◌, length, vec_len, vec_capacity}
use Rattle.std.specs.List.{AllZip}
use Rattle.rcu_runtime_threads.specs.Crews.{HasEnded}
use Rattle.rcu_runtime_threads.proofs.crew.join_all.Given as goal

abbrev pub invariant-loop-started : goal.invariant-loop-started
invariant-loop-started g l = record {
  order : l.yielded ++ l.started-iterator.rest.items ≡ l.fn.crew.started.items;
  room : vec_len l.parts + length l.started-iterator.rest.items ≤ vec_capacity l.parts;
  ended : AllZip (HasEnded (λ thread part. g.P.Promise.kept_by thread.promise part)) l.yielded l.parts.items;
}
