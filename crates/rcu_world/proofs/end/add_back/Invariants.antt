use Rattle.std.proofs.Common.{◌≡◌, ◌+◌, ◌++◌, ◌≤◌, take, map, vec_len, vec_capacity}
use Rattle.rcu_world_law.specs.declared.marks.Mark.TheVariants.{Back}
use Rattle.rcu_world.proofs.end.add_back.Given as goal

abbrev pub invariant-loop-job : goal.invariant-loop-job
invariant-loop-job g l = record {
  marks : l.marks.items ≡ l.fn.marks.items ++ map (λ key. Back l.cpu key) (map g.J.Job.key_of (take l.job-index l.jobs.items));
  len : vec_len l.marks ≡ vec_len l.fn.marks + l.job-index;
  capacity : vec_capacity l.fn.marks ≤ vec_capacity l.marks;
}
