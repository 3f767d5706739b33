use Rattle.std.proofs.Common.{ℕ, ◌<◌}
use Rattle.rcu_world_checker.specs.Returns.{Settles}
use Rattle.rcu_world_checker.proofs.closed.is_settled.Given as goal

abbrev pub invariant-loop-place : goal.invariant-loop-place
invariant-loop-place l = (u : ℕ) → u < l.place → Settles l.history u
