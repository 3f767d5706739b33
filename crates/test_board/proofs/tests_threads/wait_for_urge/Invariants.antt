use Rattle.test_board.specs.Stays.{StaysSeat}
use Rattle.rcu_board.specs.Seats.{AtBoard}
use Rattle.test_board.proofs.tests_threads.wait_for_urge.Given as goal

abbrev pub invariant-loop : goal.invariant-loop
invariant-loop g l = AtBoard l.board l.seat × StaysSeat l.fn.seat l.seat × (goal.iterator-loop g).can_next l.iterator' × (goal.iterator-loop g).is_finite l.iterator'
