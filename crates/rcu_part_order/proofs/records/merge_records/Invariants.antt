use Rattle.std.proofs.Common.{◌≡◌, ◌+◌, ◌≤◌, ◌++◌, length, vec_len, vec_capacity}
use Rattle.rcu_part_order.specs.Records.{by_number}
use Rattle.rcu_part_order.proofs.records.merge_records.Given as goal

abbrev pub invariant-loop-record : goal.invariant-loop-record
invariant-loop-record g l = record {
  merged : l.all.items ++ by_number l.own.items l.hands.items ≡ by_number l.fn.own.items l.fn.hands.items;
  room : vec_len l.all + (length l.own.items + length l.hands.items) ≤ vec_capacity l.all;
}

abbrev pub decreases-loop-record : goal.decreases-loop-record
decreases-loop-record g l = length l.own.items + length l.hands.items
