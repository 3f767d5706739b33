use Rattle.std.proofs.Common.{◌≡◌}
use Rattle.test_board.specs.Stays.{StaysSeat}
use Rattle.rcu_board.specs.Seats.{view, AtBoard}
use Rattle.test_board.proofs.tests.be_driver.Given as goal

abbrev pub invariant-loop-n : goal.invariant-loop-n
invariant-loop-n l = record {
  board : AtBoard l.board l.seat;
  same : StaysSeat l.fn.seat l.seat;
  rests : (view l.seat).running ≡ (view l.fn.seat).running;
}
