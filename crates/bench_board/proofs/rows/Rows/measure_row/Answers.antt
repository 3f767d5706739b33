use Rattle.std.proofs.Common.{rules, sym, subst, arith}
use Rattle.rcu_board.specs.Seats.{AtBoard}
use Rattle.rcu_board.specs.declared.board.Seat.{Seat}
use Rattle.bench_board.specs.Pairs.{AreOneOfEach}
use Rattle.bench_board.proofs.Seating.{at_board}
use Rattle.bench_board.proofs.rows.Rows.measure_row.Goals as goal

pub measure-requires-clause-board : goal.measure-requires-clause-board
measure-requires-clause-board g c κs within =
    let are : AreOneOfEach c.in-Some.board c.in-Some.each = search rules in
    let b = c.in-Some.board in
    subst (λ (p : Seat × Seat). AtBoard b p.0 × AtBoard b p.1) (sym c.pair-seat.ensures.seats) (at_board b c.in-Some.each are c.args.pair)

pub measure-requires-clause-some : goal.measure-requires-clause-some
measure-requires-clause-some g c κs within =
    let are : AreOneOfEach c.in-Some.board c.in-Some.each = search rules in let one = are.one in omega (arith, one)

pub measure-requires-clause-ready : goal.measure-requires-clause-ready
measure-requires-clause-ready g c κs within =
    let are : AreOneOfEach c.in-Some.board c.in-Some.each = search rules in
    let b = c.in-Some.board in
    subst (λ (p : Seat × Seat). g.K.Kind.ready b p.0 0 × g.O.Kind.ready b p.1 0) (sym c.pair-seat.ensures.seats) (c.requires.ready b c.in-Some.each are)
