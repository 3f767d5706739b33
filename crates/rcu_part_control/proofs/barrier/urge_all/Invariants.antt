use Rattle.rcu_board.specs.Seats.{view, SameSeat}
use Rattle.rcu_part_control.specs.Barriers.{UrgesFirst}
use Rattle.rcu_part_control.proofs.barrier.urge_all.Given as goal

abbrev pub invariant-loop-k : goal.invariant-loop-k
invariant-loop-k l = record {
  same : SameSeat l.fn.seat l.seat;
  urges : UrgesFirst l.board.processors l.k (view l.fn.seat) (view l.seat);
}
