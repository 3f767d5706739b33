use Rattle.rcu_board.specs.Seats.{AtBoard}
use Rattle.bench_board.proofs.measure.repeat_until.Given as goal

abbrev pub invariant-loop : goal.invariant-loop
invariant-loop g l = AtBoard l.board l.seat × g.K.Kind.ready l.board l.seat l.number × (goal.iterator-loop g).can_next l.iterator' × (goal.iterator-loop g).is_finite l.iterator'
