use Rattle.std.proofs.Common.{◌≡◌, ◌*◌, ◌≤◌, [], length}
use Rattle.std.specs.Prelude.{None}
use Rattle.test_board.specs.Stays.{StaysSeat}
use Rattle.rcu_board.specs.Seats.{view, AtBoard, accepted_of, fresh_of, own_word}
use Rattle.test_board.proofs.tests.be_processor.Given as goal

abbrev pub invariant-loop-count : goal.invariant-loop-count
invariant-loop-count l = record {
  board : AtBoard l.board l.seat;
  same : StaysSeat l.fn.seat l.seat;
  rests : (view l.seat).running ≡ [];
  counted : length (accepted_of (view l.seat)) ≡ l.count;
  stamped : fresh_of (view l.seat) ≡ None;
  here : own_word (view l.seat) ≡ 2 * l.passed;
  few : l.won ≤ l.count;
  low : l.reports ≤ l.count;
}
