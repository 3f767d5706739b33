use Rattle.std.proofs.Common.{◌≡◌, ℕ, ◌<◌}
use Rattle.rcu_world_checker.specs.Kinds.{keys}
use Rattle.rcu_agreement.specs.Accounts.{account_at}
use Rattle.rcu_agreement_checker.specs.Known.{all_known}
use Rattle.rcu_agreement_checker.specs.Lists.{listed}
use Rattle.rcu_agreement_checker.proofs.lists.are_listed.Given as goal

abbrev pub invariant-loop-p : goal.invariant-loop-p
invariant-loop-p l = (q : ℕ) → q < l.p → keys l.kind q l.history ≡ listed l.kind (account_at (all_known l.accounts) q)
