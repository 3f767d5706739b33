use Rattle.std.proofs.Common.{◌≡◌, ◌≤◌, length, take}
use Rattle.rcu_world_checker.specs.Kinds.{keys}
use Rattle.rcu_world_checker.proofs.kinds.nth_of.Given as goal

abbrev pub invariant-loop-place : goal.invariant-loop-place
invariant-loop-place l = record {
  many : l.many ≡ length (keys l.kind l.p (take l.place l.history));
  few : l.many ≤ l.place;
  under : l.many ≤ l.k;
}
