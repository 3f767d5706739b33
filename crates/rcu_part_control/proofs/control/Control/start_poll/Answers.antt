use Rattle.std.proofs.Common.{◌∙◌, refl, arith}
use Rattle.std.specs.Arc.{arc_value}
use Rattle.rcu_board.proofs.Facts.{same_seat_again}
use Rattle.rcu_part_control.proofs.control.Control.start_poll.Goals as goal

pub returns-clause-same : goal.returns-clause-same
returns-clause-same c = record { board = refl; seat = same_seat_again _ _ _ c.look-seen.ensures.same c.need.ensures.same }

pub returns-clause-later : goal.returns-clause-later
returns-clause-later c = let s = c.args.self.now in let a = c.look-seen.ensures.same in let b = c.need.ensures.same in
    let x = (a.later (arc_value s.board) s.here).board in let y = (b.later (arc_value s.board) (a.table ∙ s.here)).board in omega arith
