use Rattle.rcu_agreement_checker.specs.Places.{HasNoneAbove}
use Rattle.rcu_agreement_checker.proofs.numbers.has_none_above.Given as goal

abbrev pub invariant-loop-i : goal.invariant-loop-i
invariant-loop-i l = HasNoneAbove l.history l.i l.number
