use Rattle.std.proofs.Common.{◌≡◌, ◌+◌, ◌≤◌, drop}
use Rattle.rcu_world_law.specs.Invariant.{reports}
use Rattle.rcu_world.proofs.end.count_reports.Given as goal

abbrev pub invariant-loop-mark : goal.invariant-loop-mark
invariant-loop-mark l = record {
  all : reports l.cpu l.marks.items ≡ l.count + reports l.cpu (drop l.mark-index l.marks.items);
  most : l.count ≤ l.mark-index;
}
