use Rattle.std.proofs.Common.{◌≡◌, ◌+◌, ◌*◌, ◌≤◌, drop}
use Rattle.rcu_world.specs.Leaving.{most_marks}
use Rattle.rcu_world.specs.Views.{all_seen}
use Rattle.rcu_world.proofs.end.count_marks.Given as goal

abbrev pub invariant-loop-p : goal.invariant-loop-p
invariant-loop-p g l = record {
  all : most_marks (all_seen g.J.Job.key_of l.processors.items) ≡ l.count + most_marks (all_seen g.J.Job.key_of (drop l.p-index l.processors.items));
  most : l.count ≤ 1000001 * l.p-index;
}
