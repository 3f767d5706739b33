use Rattle.std.proofs.Common.{◌≡◌, map, ◌++◌, length}
use Rattle.rcu_world_law.specs.LabelledLists.{bare}
use Rattle.rcu_lists.specs.Segments.{SegmentsRoom}
use Rattle.rcu_world_processor.specs.Waits.{waiting}
use Rattle.rcu_world_processor.specs.Batches.{batch}
use Rattle.rcu_world_processor.proofs.waits.join_bare.Given as goal

abbrev pub invariant-loop-list : goal.invariant-loop-list
invariant-loop-list g l = record {
  all : waiting g.J.Job.key_of l.list ++ map bare (batch g.J.Job.key_of l.joined) ≡ waiting g.J.Job.key_of l.fn.list ++ map bare (batch g.J.Job.key_of l.fn.joined);
  room : SegmentsRoom l.list (length (batch g.J.Job.key_of l.joined));
}

abbrev pub decreases-loop-list : goal.decreases-loop-list
decreases-loop-list g l = length (batch g.J.Job.key_of l.joined)
