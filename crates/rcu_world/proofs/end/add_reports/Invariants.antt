use Rattle.std.proofs.Common.{◌≤◌, vec_capacity}
use Rattle.rcu_world.specs.Leaving.{AreReported}
use Rattle.rcu_world.proofs.end.add_reports.Given as goal

abbrev pub invariant-loop-cpu : goal.invariant-loop-cpu
invariant-loop-cpu l = record {
  counts : AreReported l.cpu l.marks.items l.counts.items;
  capacity : vec_capacity l.fn.counts ≤ vec_capacity l.counts;
}
