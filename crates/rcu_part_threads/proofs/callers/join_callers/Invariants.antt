use Rattle.std.proofs.Common.{◌≡◌, ◌++◌, None}
use Rattle.std.specs.List.{AllZip}
use Rattle.rcu_part_threads.specs.Calls.{HasAnswered, HasCalled}
use Rattle.rcu_part_threads.proofs.callers.join_callers.Given as goal

abbrev pub invariant-loop-thread : goal.invariant-loop-thread
invariant-loop-thread g l = record {
  order : l.yielded ++ l.thread-iterator.rest.items ≡ l.fn.crew.threads.items;
  whole : l.fault ≡ None → l.fn.crew.fault ≡ None;
  called : l.fault ≡ None → AllZip (λ thread c. HasCalled g.J.Job.key_of g.J.Job.gives l.tickets.items thread.promise.0.value.processor c.processor) l.yielded l.called.items;
  answered : l.fault ≡ None → AllZip (λ thread c. HasAnswered g.J.Job.key_of g.J.Job.gives thread.promise.0.value.jobs.items c.answers.items thread.promise.0.value.processor c.processor) l.yielded l.called.items;
}
