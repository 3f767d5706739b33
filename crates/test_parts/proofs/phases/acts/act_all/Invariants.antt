use Rattle.test_parts.specs.Kept.{ProcessorsKeep}
use Rattle.test_parts.proofs.phases.acts.act_all.Given as goal

abbrev pub invariant-loop-step : goal.invariant-loop-step
invariant-loop-step g l = ProcessorsKeep g.J.Job.key_of g.J.Job.gives l.fn.callers.processors.items l.processors.items
