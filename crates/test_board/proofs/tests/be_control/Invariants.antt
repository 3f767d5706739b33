use Rattle.std.proofs.Common.{◌≡◌}
use Rattle.test_board.specs.Stays.{StaysSeat}
use Rattle.rcu_board.specs.Seats.{view, AtBoard}
use Rattle.test_board.proofs.tests.be_control.Given as goal

abbrev pub invariant-loop-round : goal.invariant-loop-round
invariant-loop-round l = record {
  board : AtBoard l.board l.seat;
  same : StaysSeat l.fn.seat l.seat;
  rests : (view l.seat).running ≡ (view l.fn.seat).running;
}
