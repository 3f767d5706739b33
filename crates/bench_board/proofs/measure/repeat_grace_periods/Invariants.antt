use Rattle.std.proofs.Common.{◌≡◌, ◌+◌, ◌*◌}
use Rattle.rcu_numbers.specs.Numbers.{IsIdle}
use Rattle.rcu_board.specs.Views.{sight}
use Rattle.rcu_board.specs.Words.{reports_word}
use Rattle.bench_board.specs.Stays.{HasStepped, Reports, StaysSeat}
use Rattle.rcu_board.specs.Seats.{view, AtBoard}
use Rattle.bench_board.proofs.measure.repeat_grace_periods.Given as goal

abbrev pub invariant-loop-round : goal.invariant-loop-round
invariant-loop-round l = record {
  driver : AtBoard l.board l.driver;
  processor : AtBoard l.board l.processor;
  same_driver : StaysSeat l.fn.driver l.driver;
  same_processor : StaysSeat l.fn.processor l.processor;
  seen : sight (view l.driver) ≡ l.seq;
  idle : IsIdle l.seq;
  ended : l.seq ≡ sight (view l.fn.driver) + 4 * l._round;
  reports : Reports l.processor l.passed;
  reported : HasStepped (reports_word 0) l._round l.fn.processor l.processor;
}
