use Rattle.rcu_lanes.specs.Ends.{SameRear}
use Rattle.test_board.proofs.tests_lanes.put_all.Given as goal

abbrev pub invariant-loop : goal.invariant-loop
invariant-loop g l = SameRear l.initial.rear l.rear × (goal.iterator-loop g).can_next l.iterator' × (goal.iterator-loop g).is_finite l.iterator'
