use Rattle.rcu_runtime_threads.proofs.turns.run_driver.Given as goal
use Rattle.rcu_part_control.specs.Parts.{SameDriver}

abbrev pub invariant-loop : goal.invariant-loop
invariant-loop g l = record {
  next : (goal.iterator-loop g).can_next l.iterator';
  finite : (goal.iterator-loop g).is_finite l.iterator';
  stays : SameDriver l.fn.driver l.driver;
}
