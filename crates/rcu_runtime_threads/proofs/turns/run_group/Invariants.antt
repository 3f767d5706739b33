use Rattle.rcu_runtime_threads.specs.Stays.{GroupStays}
use Rattle.rcu_runtime_threads.proofs.turns.run_group.Given as goal

abbrev pub invariant-loop : goal.invariant-loop
invariant-loop g l = record {
  next : (goal.iterator-loop g).can_next l.iterator';
  finite : (goal.iterator-loop g).is_finite l.iterator';
  stays : GroupStays l.fn.group l.group;
}
