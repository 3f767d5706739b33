use Rattle.std.proofs.Common.{◌≤◌, ◌<◌, ◌*◌, ℕ}
use Rattle.rcu_board.specs.Seats.{view}
use Rattle.rcu_board.specs.Views.{seen_at}
use Rattle.rcu_board.specs.Words.{turns_word}
use Rattle.rcu_board.specs.Frames.{SamePart, StepsOnEach}
use Rattle.rcu_part_control.specs.Barriers.{count_at}
use Rattle.rcu_part_control.proofs.barrier.Barrier.poll.Given as goal

abbrev pub invariant-loop-p : goal.invariant-loop-p
invariant-loop-p g l = record {
  same : SamePart (g.W.ReadsTurns.board_of l.fn.by) (g.W.ReadsTurns.board_of l.by) (g.W.ReadsTurns.seat_of l.fn.by) (g.W.ReadsTurns.seat_of l.by);
  keeps : g.W.ReadsTurns.keeps l.fn.by l.by;
  steps : StepsOnEach turns_word l.p (view (g.W.ReadsTurns.seat_of l.fn.by)) (view (g.W.ReadsTurns.seat_of l.by));
  over : (p : ℕ) → p < l.p → 2 * count_at l.self.counts p ≤ seen_at (view (g.W.ReadsTurns.seat_of l.by)) (turns_word p);
}
