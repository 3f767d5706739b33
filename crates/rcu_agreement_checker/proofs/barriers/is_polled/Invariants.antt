use Rattle.std.proofs.Common.{ℕ, ◌<◌, ◌≤◌}
use Rattle.std.specs.List.{Any}
use Rattle.rcu_agreement.specs.Accounts.{account_at}
use Rattle.rcu_agreement.specs.Agreement.{count_of}
use Rattle.rcu_agreement_checker.specs.Known.{all_counts, all_known}
use Rattle.rcu_agreement_checker.proofs.barriers.is_polled.Given as goal

abbrev pub invariant-loop-p : goal.invariant-loop-p
invariant-loop-p l = (q : ℕ) → q < l.p → Any (λ turn. count_of (all_counts l.counts) l.b q ≤ turn) (account_at (all_known l.accounts) q).turns
