use Rattle.rcu_lanes.specs.Ends.{SameRear}
use Rattle.check_memory.proofs.lanes.put_all.Given as goal

abbrev pub invariant-loop-item : goal.invariant-loop-item
invariant-loop-item l = SameRear l.fn.rear l.rear
