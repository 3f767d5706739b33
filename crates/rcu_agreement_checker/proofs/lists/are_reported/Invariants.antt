use Rattle.std.proofs.Common.{◌≡◌, ℕ, ◌<◌}
use Rattle.rcu_world_law.specs.Invariant.{reports}
use Rattle.rcu_agreement.specs.Accounts.{account_at}
use Rattle.rcu_agreement_checker.specs.Known.{all_known}
use Rattle.rcu_agreement_checker.proofs.lists.are_reported.Given as goal

abbrev pub invariant-loop-q : goal.invariant-loop-q
invariant-loop-q l = (p : ℕ) → p < l.q → reports p l.history ≡ (account_at (all_known l.accounts) p).reports
