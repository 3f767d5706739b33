use Rattle.std.proofs.Common.{◌≡◌, ◌+◌, ◌++◌, ◌≤◌, drop, vec_len, vec_capacity}
use Rattle.rcu_world_law.specs.Closing.{shut_marks}
use Rattle.rcu_world.specs.Views.{all_seen}
use Rattle.rcu_world.proofs.end.add_shuts.Given as goal

abbrev pub invariant-loop-cpu : goal.invariant-loop-cpu
invariant-loop-cpu g l = record {
  all : l.fn.marks.items ++ shut_marks 0 (all_seen g.J.Job.key_of l.processors.items) ≡ l.marks.items ++ shut_marks l.cpu (all_seen g.J.Job.key_of (drop l.cpu l.processors.items));
  len : vec_len l.marks ≤ vec_len l.fn.marks + l.cpu;
  capacity : vec_capacity l.fn.marks ≤ vec_capacity l.marks;
}
