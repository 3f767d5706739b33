use Rattle.std.proofs.Common.{refl}
use Rattle.rcu_board.proofs.Facts.{same_seat_again}
use Rattle.rcu_part_control.proofs.driver.Driver.account.Goals as goal

pub returns-in-Ok-clause-same : goal.returns-in-Ok-clause-same
returns-in-Ok-clause-same c = record { board = refl; seat = same_seat_again _ _ _ c.sighted-word.ensures.same c.meet.ensures.same }

pub returns-in-Err-clause-same : goal.returns-in-Err-clause-same
returns-in-Err-clause-same c = record { board = refl; seat = same_seat_again _ _ _ c.sighted-word.ensures.same c.meet.ensures.same }
