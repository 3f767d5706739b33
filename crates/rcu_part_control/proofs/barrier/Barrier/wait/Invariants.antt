use Rattle.std.proofs.Common.{◌≡◌}
use Rattle.rcu_board.specs.Words.{turns_word}
use Rattle.rcu_part_control.specs.Parts.{SameControl, control_view}
use Rattle.rcu_board.specs.Frames.{StepsWithin}
use Rattle.rcu_part_control.proofs.barrier.Barrier.wait.Given as goal

abbrev pub invariant-loop : goal.invariant-loop
invariant-loop g l = record {
  next : (goal.iterator-loop g).can_next l.iterator';
  finite : (goal.iterator-loop g).is_finite l.iterator';
  barrier : l.barrier ≡ l.fn.self;
  same : SameControl l.fn.by l.by;
  only : StepsWithin turns_word l.fn.self.counts.n (control_view l.fn.by) (control_view l.by);
}
