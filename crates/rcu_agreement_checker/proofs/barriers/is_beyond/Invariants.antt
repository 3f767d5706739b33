use Rattle.std.proofs.Common.{ℕ, ◌<◌, ◌≤◌}
use Rattle.rcu_world_law.specs.Law.{IsRan}
use Rattle.rcu_agreement.specs.Agreement.{count_of}
use Rattle.rcu_agreement_checker.specs.Known.{all_counts}
use Rattle.rcu_agreement_checker.proofs.barriers.is_beyond.Given as goal

abbrev pub invariant-loop-u : goal.invariant-loop-u
invariant-loop-u l = (p k v : ℕ) → IsRan l.history p k v → l.place ≤ v → v < l.u → count_of (all_counts l.counts) l.b p ≤ k
