use Rattle.std.proofs.Common.{◌-◌, ◌*◌}
use Rattle.bench_board.specs.Stays.{HasStepped, StaysSeat}
use Rattle.rcu_board.specs.Seats.{AtBoard}
use Rattle.bench_board.proofs.measure.repeat.Given as goal

abbrev pub invariant-loop-number : goal.invariant-loop-number
invariant-loop-number g l = record {
  board : AtBoard l.board l.seat;
  same : StaysSeat l.fn.seat l.seat;
  ready : g.K.Kind.ready l.board l.seat l.number;
  made : HasStepped (g.K.Kind.word l.board l.fn.seat.role) (g.K.Kind.steps * (l.number - l.from)) l.fn.seat l.seat;
}
