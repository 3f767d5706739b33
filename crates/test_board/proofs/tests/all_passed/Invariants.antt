use Rattle.std.proofs.Common.{◌≡◌}
use Rattle.test_board.specs.Stays.{StaysSeat}
use Rattle.rcu_board.specs.Seats.{view, AtBoard, AllAccounted}
use Rattle.rcu_board.specs.Views.{sight}
use Rattle.test_board.proofs.tests.all_passed.Given as goal

abbrev pub invariant-loop-p : goal.invariant-loop-p
invariant-loop-p l = record {
  board : AtBoard l.board l.seat;
  same : StaysSeat l.fn.seat l.seat;
  rests : (view l.seat).running ≡ (view l.fn.seat).running;
  seen : sight (view l.seat) ≡ l.seq;
  all : AllAccounted l.p l.seq (view l.seat);
}
