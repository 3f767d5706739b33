use Rattle.rcu_board.proofs.Facts.{same_seat_again}
use Rattle.rcu_part_control.proofs.driver.Driver.turn.Goals as goal

pub returns-then-seq-eq0-clause-same : goal.returns-then-seq-eq0-clause-same
returns-then-seq-eq0-clause-same c = record { board = c.begin.ensures.same.board; seat = same_seat_again _ _ _ c.look-seq.ensures.same c.begin.ensures.same.seat }

pub returns-else-seq-eq0-clause-same : goal.returns-else-seq-eq0-clause-same
returns-else-seq-eq0-clause-same c = record { board = c.conclude.ensures.same.board; seat = same_seat_again _ _ _ c.look-seq.ensures.same c.conclude.ensures.same.seat }
