use Rattle.std.proofs.Common.{◌≡◌, [], length}
use Rattle.std.specs.Prelude.{None}
use Rattle.test_board.specs.Stays.{StaysSeat}
use Rattle.rcu_board.specs.Seats.{view, AtBoard, accepted_of, fresh_of}
use Rattle.test_board.proofs.tests_threads.accept_all.Given as goal

abbrev pub invariant-loop-number : goal.invariant-loop-number
invariant-loop-number l = record {
  board : AtBoard l.board l.seat;
  same : StaysSeat l.fn.seat l.seat;
  rests : (view l.seat).running ≡ [];
  counted : length (accepted_of (view l.seat)) ≡ l.number;
  stamped : fresh_of (view l.seat) ≡ None;
}
