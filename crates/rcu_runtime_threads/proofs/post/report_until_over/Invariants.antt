use Rattle.rcu_runtime_threads.specs.Steps.{ProcessorWorks}
use Rattle.rcu_runtime_threads.proofs.post.report_until_over.Given as goal

abbrev pub invariant-loop : goal.invariant-loop
invariant-loop g l = record {
  next : (goal.iterator-loop g).can_next l.iterator';
  finite : (goal.iterator-loop g).is_finite l.iterator';
  works : ProcessorWorks g.J.Job.key_of g.J.Job.gives l.fn.processor l.processor;
}
