use Rattle.std.proofs.Common.{ap, subst, sym, ◌∙◌}
use Rattle.rcu_part_control.specs.Parts.{SameDriver}
use Rattle.rcu_runtime_threads.proofs.threads.start_driver.Goals as goal

pub returns-in_default : goal.returns-in_default
returns-in_default g c = c.run_driver.ensures

pub spawn_with-requires-clause-keeps : goal.spawn_with-requires-clause-keeps
spawn_with-requires-clause-keeps g c κs within = λ r kept. subst (λ x. SameDriver x r) (sym c.of.ensures) kept

pub returns-in-Ok-spawn_with : goal.returns-in-Ok-spawn_with
returns-in-Ok-spawn_with g c = ap (λ p. p.0.value) c.in-Ok-spawn_with.ensures.ok ∙ c.of.ensures

pub returns-in-Err : goal.returns-in-Err
returns-in-Err g c = subst (λ x. SameDriver x c.run.result) (ap (λ kept. kept.0) c.in-Err.ensures.err) c.run.ensures
