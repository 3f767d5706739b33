use Rattle.rcu_runtime.proofs.Settles.{AreCountedTo}
use Rattle.rcu_runtime.proofs.until_passed.counts_all.Given as goal

abbrev pub invariant-loop-processor : goal.invariant-loop-processor
invariant-loop-processor g l = AreCountedTo l.counts l.processor-index l.processors.items
