use Rattle.rcu_part_control.specs.Parts.{SameDriver}
use Rattle.rcu_part_control.proofs.driver.Driver.run.Given as goal

abbrev pub invariant-loop : goal.invariant-loop
invariant-loop g l = record {
  next : (goal.iterator-loop g).can_next l.iterator';
  finite : (goal.iterator-loop g).is_finite l.iterator';
  same : SameDriver l.fn.self l.driver;
}
