use Rattle.std.proofs.Common.{◌≡◌, ℕ, ◌<◌, ◌≤◌}
use Rattle.rcu_numbers.specs.Words.{owes_of}
use Rattle.rcu_numbers.proofs.set.ProcessorSet.is_below.Given as goal

abbrev pub invariant-loop-p : goal.invariant-loop-p
invariant-loop-p l = (q : ℕ) → l.n ≤ q → q < l.p → owes_of l.self q ≡ 1 → ⊥
