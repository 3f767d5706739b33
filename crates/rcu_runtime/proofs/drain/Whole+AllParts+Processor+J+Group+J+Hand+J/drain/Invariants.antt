use Rattle.rcu_runtime.specs.Runtimes.{IsShutFor}
use Rattle.rcu_runtime.specs.Waits.{Waits}
use Rattle.rcu_runtime.proofs.drain.Whole+AllParts+Processor+J+Group+J+Hand+J.drain.Given as goal

abbrev pub invariant-loop-made : goal.invariant-loop-made
invariant-loop-made g l = record {
  shut : IsShutFor l.barrier.counts l.self;
  waits : Waits l.moment l.barrier.counts l._made l.initial.self l.self;
}
