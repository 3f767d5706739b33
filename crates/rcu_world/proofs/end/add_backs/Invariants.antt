use Rattle.std.proofs.Common.{◌≡◌, ◌+◌, ◌++◌, ◌≤◌, drop, map, length, vec_len, vec_capacity}
use Rattle.rcu_world.specs.Leaving.{backs}
use Rattle.rcu_world.proofs.end.add_backs.Given as goal

abbrev pub invariant-loop-cpu : goal.invariant-loop-cpu
invariant-loop-cpu g l = record {
  all : l.fn.marks.items ++ backs 0 (map (λ v. map g.J.Job.key_of v.items) l.back.items) ≡ l.marks.items ++ backs l.cpu (map (λ v. map g.J.Job.key_of v.items) (drop l.cpu l.back.items));
  room : vec_len l.marks + length (backs l.cpu (map (λ v. map g.J.Job.key_of v.items) (drop l.cpu l.back.items))) ≤ vec_capacity l.marks;
}
