use Rattle.rcu_lanes.specs.Ends.{SameFront}
use Rattle.check_memory.proofs.lanes.draw_first.Given as goal

abbrev pub invariant-loop-item : goal.invariant-loop-item
invariant-loop-item l = SameFront l.fn.front l.front
