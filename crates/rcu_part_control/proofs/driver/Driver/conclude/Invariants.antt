use Rattle.std.proofs.Common.{◌≡◌}
use Rattle.rcu_board.specs.Views.{sight}
use Rattle.rcu_board.specs.Words.{reports_word}
use Rattle.rcu_board.specs.Frames.{StepsWithin}
use Rattle.rcu_board.specs.Seats.{AllAccounted}
use Rattle.rcu_part_control.specs.Parts.{driver_board, driver_view, SameDriver}
use Rattle.rcu_part_control.proofs.driver.Driver.conclude.Given as goal

abbrev pub invariant-loop-p : goal.invariant-loop-p
invariant-loop-p l = record {
  same : SameDriver l.fn.self l.self;
  round : StepsWithin reports_word (driver_board l.fn.self).processors (driver_view l.fn.self) (driver_view l.self);
  sight : sight (driver_view l.self) ≡ l.seq;
  seen : l.self.seen ≡ l.p;
  before : AllAccounted l.p l.seq (driver_view l.self);
}
