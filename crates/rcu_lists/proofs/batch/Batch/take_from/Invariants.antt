use Rattle.std.proofs.Common.{◌≡◌, ℕ, ◌+◌, ◌-◌, ◌++◌, take, drop}
use Rattle.std.specs.VecDeque.{deque_capacity}
use Rattle.rcu_lists.specs.Batches.{batch_items, HasRoom}
use Rattle.rcu_lists.proofs.batch.Batch.take_from.Given as goal

abbrev pub invariant-loop : goal.invariant-loop
invariant-loop g l = record {
  moved : batch_items l.self ≡ batch_items l.initial.self ++ take l.counter l.initial.list.items;
  left : l.list.items ≡ drop l.counter l.initial.list.items;
  room : HasRoom l.self (l.number - l.counter);
  left_room : (k : ℕ) → HasRoom l.initial.self (l.counter + k) → HasRoom l.self k;
  capacity : deque_capacity l.list ≡ deque_capacity l.initial.list;
}
