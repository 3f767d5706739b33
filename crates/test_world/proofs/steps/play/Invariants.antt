use Rattle.test_world.specs.Resting.{IsResting}
use Rattle.test_world.proofs.steps.play.Given as goal

abbrev pub invariant-loop-at : goal.invariant-loop-at
invariant-loop-at g l = IsResting g.J.Job.key_of g.J.Job.gives l.world.core
