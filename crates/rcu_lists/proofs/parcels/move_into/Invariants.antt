use Rattle.std.proofs.Common.{◌≡◌, ◌+◌, ◌≤◌, ◌++◌, length}
use Rattle.std.specs.Prelude.{vec_capacity}
use Rattle.rcu_lists.specs.Batches.{batch_items}
use Rattle.rcu_lists.specs.Filled.{filled, AreFilled}
use Rattle.rcu_lists.proofs.parcels.move_into.Given as goal

-- what was moved is first, and the rest of the batch follows
abbrev pub invariant-loop-callback : goal.invariant-loop-callback
invariant-loop-callback g l = record {
  moved : filled l.slots.items ++ batch_items l.batch ≡ batch_items l.fn.batch;
  full : AreFilled l.slots.items;
  room : length l.slots.items + length (batch_items l.batch) ≤ vec_capacity l.slots;
}

abbrev pub decreases-loop-callback : goal.decreases-loop-callback
decreases-loop-callback g l = length (batch_items l.batch)
