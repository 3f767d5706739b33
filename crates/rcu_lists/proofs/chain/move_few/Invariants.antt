use Rattle.std.proofs.Common.{◌≡◌, ◌-◌, ◌++◌, take, drop}
use Rattle.rcu_lists.specs.Batches.{batch_items, HasRoom}
use Rattle.rcu_lists.specs.Blocks.{blocks_items}
use Rattle.rcu_lists.proofs.chain.move_few.Given as goal

abbrev pub invariant-loop : goal.invariant-loop
invariant-loop g l = record {
  moved : batch_items l.batch ≡ batch_items l.initial.batch ++ take l.counter (blocks_items l.initial.blocks.items);
  left : blocks_items l.blocks.items ≡ drop l.counter (blocks_items l.initial.blocks.items);
  room : HasRoom l.batch (l.number - l.counter);
}
