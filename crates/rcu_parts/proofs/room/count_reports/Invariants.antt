use Rattle.std.proofs.Common.{◌≡◌, ◌≤◌, length, vec_len, vec_capacity}
use Rattle.rcu_parts.proofs.Counting.{CountedTo}
use Rattle.rcu_parts.proofs.room.count_reports.Given as goal

abbrev pub invariant-loop-processor : goal.invariant-loop-processor
invariant-loop-processor g l = record {
  counted : CountedTo l.processor-index l.processors.items l.reports.items;
  long : vec_len l.reports ≡ l.processor-index;
  room : length l.processors.items ≤ vec_capacity l.reports;
}
