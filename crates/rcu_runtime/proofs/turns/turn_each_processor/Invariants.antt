use Rattle.rcu_runtime.specs.Passing.{PassesTick}
use Rattle.rcu_runtime.proofs.Changing.{FirstsOf}
use Rattle.rcu_runtime.proofs.turns.turn_each_processor.Given as goal

abbrev pub invariant-loop-processor : goal.invariant-loop-processor
invariant-loop-processor g l = FirstsOf (PassesTick g.J.Job.key_of g.J.Job.gives l.fn.moment) l.processor-index l.fn.processors.items l.processor-items
