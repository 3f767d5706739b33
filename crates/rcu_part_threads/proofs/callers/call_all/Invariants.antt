use Rattle.std.proofs.Common.{◌≡◌, ◌+◌, ◌≤◌, ◌++◌, length, vec_len, vec_capacity}
use Rattle.rcu_part_threads.specs.Calls.{CallsInTurn, HasAnswered}
use Rattle.rcu_part_threads.proofs.callers.call_all.Given as goal

abbrev pub invariant-loop-job : goal.invariant-loop-job
invariant-loop-job g l = record {
  order : l.yielded ++ l.job-iterator.rest.items ≡ l.fn.caller.jobs.items;
  moment : l.moment ≡ length l.yielded;
  turns : CallsInTurn g.J.Job.key_of 0 l.yielded l.answers.items l.fn.caller.processor.state l.processor.state;
  answered : HasAnswered g.J.Job.key_of g.J.Job.gives l.yielded l.answers.items l.fn.caller.processor l.processor;
  room : vec_len l.answers + length l.job-iterator.rest.items ≤ vec_capacity l.answers;
}
