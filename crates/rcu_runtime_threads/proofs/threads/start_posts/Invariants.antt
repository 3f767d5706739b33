use Rattle.std.proofs.Common.{◌≡◌, ◌+◌, ◌≤◌, ◌++◌, length, vec_len, vec_capacity}
use Rattle.std.specs.List.{AllZip}
use Rattle.rcu_runtime_threads.specs.Crews.{HasBegun}
use Rattle.rcu_runtime_threads.specs.Steps.{PostWorks}
use Rattle.rcu_runtime_threads.proofs.threads.start_posts.Given as goal

abbrev pub invariant-loop-post : goal.invariant-loop-post
invariant-loop-post g l = record {
  order : l.yielded ++ l.post-iterator.rest.items ≡ l.fn.posts.items;
  room : vec_len l.started + length l.post-iterator.rest.items ≤ vec_capacity l.started;
  ended : vec_len l.started + length l.post-iterator.rest.items ≤ vec_capacity l.fn.room.ended;
  started : AllZip (HasBegun (λ thread. thread.promise.0.value) (PostWorks g.J.Job.key_of g.J.Job.gives g.W.Worker.name_of g.W.Worker.ends_as)) l.yielded l.started.items;
}
