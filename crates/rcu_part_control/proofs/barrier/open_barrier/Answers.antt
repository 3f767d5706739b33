use Rattle.rcu_board.specs.Seats.{view}
use Rattle.rcu_board.proofs.Facts.{same_seat_again}
use Rattle.rcu_part_control.proofs.barrier.open_barrier.Goals as goal

pub returns-clause-same : goal.returns-clause-same
returns-clause-same c = same_seat_again _ _ _ c.read_counts-counts.ensures.same c.urge_all.ensures.same

pub returns-clause-opens : goal.returns-clause-opens
returns-clause-opens c = let a = c.read_counts-counts.ensures in record {
  between = view c.read_counts-counts.new.seat;
  many = a.many;
  reads = a.reads;
  urges = c.urge_all.ensures.urges;
}
