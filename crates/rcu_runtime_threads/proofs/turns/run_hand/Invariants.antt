use Rattle.rcu_runtime_threads.specs.Stays.{HandStays}
use Rattle.rcu_runtime_threads.proofs.turns.run_hand.Given as goal

abbrev pub invariant-loop : goal.invariant-loop
invariant-loop g l = record {
  next : (goal.iterator-loop g).can_next l.iterator';
  finite : (goal.iterator-loop g).is_finite l.iterator';
  stays : HandStays g.J.Job.key_of g.J.Job.gives l.fn.hand l.hand;
}
