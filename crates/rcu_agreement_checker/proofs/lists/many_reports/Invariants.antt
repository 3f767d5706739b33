use Rattle.std.proofs.Common.{◌≡◌, ◌≤◌, take}
use Rattle.rcu_world_law.specs.Invariant.{reports}
use Rattle.rcu_agreement_checker.proofs.lists.many_reports.Given as goal

abbrev pub invariant-loop-mark : goal.invariant-loop-mark
invariant-loop-mark l = record {
  many : l.many ≡ reports l.q (take l.mark-index l.history);
  few : l.many ≤ l.mark-index;
}
