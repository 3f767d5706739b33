use Rattle.std.proofs.Common.{◌≡◌, []}
use Rattle.test_board.specs.Stays.{StaysSeat}
use Rattle.rcu_board.specs.Seats.{view, AtBoard}
use Rattle.test_board.proofs.tests_threads.win_turns.Given as goal

abbrev pub invariant-loop : goal.invariant-loop
invariant-loop g l = AtBoard l.board l.seat × StaysSeat l.fn.seat l.seat × ((view l.seat).running ≡ []) × (goal.iterator-loop g).can_next l.iterator' × (goal.iterator-loop g).is_finite l.iterator'
