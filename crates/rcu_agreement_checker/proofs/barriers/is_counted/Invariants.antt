use Rattle.rcu_agreement_checker.specs.Known.{all_counts}
use Rattle.rcu_agreement_checker.specs.Places.{IsCounted}
use Rattle.rcu_agreement_checker.proofs.barriers.is_counted.Given as goal

abbrev pub invariant-loop-t : goal.invariant-loop-t
invariant-loop-t l = IsCounted (all_counts l.counts) l.history l.t l.b
