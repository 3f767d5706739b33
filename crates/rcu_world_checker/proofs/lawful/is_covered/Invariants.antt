use Rattle.std.proofs.Common.{ℕ, ◌<◌}
use Rattle.rcu_world_checker.specs.Fits.{HasReported}
use Rattle.rcu_world_checker.proofs.lawful.is_covered.Given as goal

abbrev pub invariant-loop-q : goal.invariant-loop-q
invariant-loop-q l = (q : ℕ) → q < l.q → HasReported l.history l.after q
