use Rattle.std.proofs.Common.{ℕ, ◌<◌, ◌≤◌}
use Rattle.rcu_agreement.specs.Accounts.{number_of}
use Rattle.rcu_agreement.specs.Agreement.{IsReport}
use Rattle.rcu_agreement_checker.proofs.numbers.has_none_below.Given as goal

abbrev pub invariant-loop-i : goal.invariant-loop-i
invariant-loop-i l = (q j v : ℕ) → IsReport l.history q j v → l.place ≤ v → v < l.i → l.number ≤ number_of j
