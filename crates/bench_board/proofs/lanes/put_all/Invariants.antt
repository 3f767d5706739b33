use Rattle.rcu_lanes.specs.Ends.{SameRear}
use Rattle.bench_board.proofs.lanes.put_all.Given as goal

abbrev pub invariant-loop-load : goal.invariant-loop-load
invariant-loop-load g l = SameRear l.initial.rear l.rear × (goal.iterator-loop-load g).can_next l.load-iterator × (goal.iterator-loop-load g).is_finite l.load-iterator
