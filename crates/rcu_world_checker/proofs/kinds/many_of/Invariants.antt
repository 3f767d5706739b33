use Rattle.std.proofs.Common.{◌≡◌, ◌≤◌, length, take}
use Rattle.rcu_world_checker.specs.Kinds.{keys}
use Rattle.rcu_world_checker.proofs.kinds.many_of.Given as goal

abbrev pub invariant-loop-mark : goal.invariant-loop-mark
invariant-loop-mark l = record {
  many : l.many ≡ length (keys l.kind l.p (take l.mark-index l.history));
  few : l.many ≤ l.mark-index;
}
