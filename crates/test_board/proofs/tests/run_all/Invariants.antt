use Rattle.std.proofs.Common.{◌≡◌, ◌≤◌, []}
use Rattle.test_board.specs.Stays.{StaysSeat}
use Rattle.rcu_board.specs.Seats.{view, AtBoard}
use Rattle.test_board.proofs.tests.run_all.Given as goal

abbrev pub invariant-loop-number : goal.invariant-loop-number
invariant-loop-number l = record {
  board : AtBoard l.board l.seat;
  same : StaysSeat l.fn.seat l.seat;
  rests : (view l.seat).running ≡ [];
  few : l.won ≤ l.number;
}
