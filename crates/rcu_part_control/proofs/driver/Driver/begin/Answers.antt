use Rattle.std.proofs.Common.{refl}
use Rattle.rcu_board.proofs.Facts.{same_seat_again}
use Rattle.rcu_part_control.proofs.driver.Driver.begin.Goals as goal

pub returns-clause-same : goal.returns-clause-same
returns-clause-same c = record { board = refl; seat = same_seat_again _ _ _ c.needed-asked.ensures.same c.start.ensures.same }
