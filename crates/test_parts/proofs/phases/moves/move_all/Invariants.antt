use Rattle.test_parts.specs.Kept.{IsOurs}
use Rattle.test_parts.proofs.phases.moves.move_all.Given as goal
use Rattle.rcu_part_control.specs.Parts.{SameControl, SameDriver}

abbrev pub invariant-loop-next : goal.invariant-loop-next
invariant-loop-next l = record {
  driver : SameDriver l.fn.center.driver l.driver;
  control : SameControl l.fn.center.control l.control;
  ours : IsOurs l.control l.barrier;
}
