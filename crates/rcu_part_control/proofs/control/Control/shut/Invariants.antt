use Rattle.std.proofs.Common.{length, ◌≡◌}
use Rattle.rcu_part_control.specs.Control.{Shuts}
use Rattle.rcu_part_control.specs.Parts.{control_board, control_view, SameControl}
use Rattle.rcu_part_control.proofs.control.Control.shut.Given as goal

abbrev pub invariant-loop-p : goal.invariant-loop-p
invariant-loop-p l = record {
  all : l.n ≡ (control_board l.self).processors;
  same : SameControl l.fn.self l.self;
  long : length l.counts.counts ≡ 1024;
  many : l.counts.n ≡ (control_board l.self).processors;
  shuts : Shuts l.p l.counts (control_view l.fn.self) (control_view l.self);
}
