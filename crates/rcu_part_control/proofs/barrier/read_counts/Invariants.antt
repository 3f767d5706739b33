use Rattle.std.proofs.Common.{length, ◌≡◌}
use Rattle.rcu_board.specs.Seats.{view, SameSeat}
use Rattle.rcu_part_control.specs.Barriers.{ReadsCounts, CountsItsOwn}
use Rattle.rcu_part_control.proofs.barrier.read_counts.Given as goal

abbrev pub invariant-loop-p : goal.invariant-loop-p
invariant-loop-p l = record {
  same : SameSeat l.fn.seat l.seat;
  long : length l.counts.counts ≡ 1024;
  many : l.counts.n ≡ l.board.processors;
  reads : ReadsCounts l.p l.counts (view l.fn.seat) (view l.seat);
  own : CountsItsOwn l.p l.counts l.fn.seat;
}
