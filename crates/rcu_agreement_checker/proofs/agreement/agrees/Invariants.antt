use Rattle.std.proofs.Common.{ℕ, ◌<◌}
use Rattle.rcu_agreement_checker.specs.Known.{all_counts, all_known}
use Rattle.rcu_agreement_checker.specs.Places.{AgreesAt}
use Rattle.rcu_agreement_checker.proofs.agreement.agrees.Given as goal

abbrev pub invariant-loop-place : goal.invariant-loop-place
invariant-loop-place l = (u : ℕ) → u < l.place → AgreesAt (all_known l.accounts) (all_counts l.counts) l.history u
