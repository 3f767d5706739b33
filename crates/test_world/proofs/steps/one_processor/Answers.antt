use Rattle.std.proofs.Common.{◌∙◌, length, ap, arith}
use Rattle.rcu_world.specs.Worlds.{plan}
use Rattle.rcu_world_law.proofs.Opening.{length_opening}
use Rattle.rcu_world_law.specs.States.{State}
use Rattle.test_world.proofs.steps.one_processor.Goals as goal

pub returns : goal.returns
returns g c = let s = c.expect-shape.result in record {
  world = c.in-Ok.ensures.kept;
  rest = c.in-Ok.ensures.rest;
  there = let many = ap (λ (w : State). length w.cpus) c.in-Ok.ensures.opens ∙ length_opening s.processors (plan s).offloadable in let some = s.within.some_processors.0 in omega (arith, many, some);
}
