use Rattle.std.proofs.Common.{◌≡◌, ◌++◌, length}
use Rattle.rcu_lists.specs.Batches.{batch_items}
use Rattle.rcu_lists.specs.Blocks.{BlockRoom}
use Rattle.rcu_lists.specs.Parcels.{places_items}
use Rattle.rcu_lists.proofs.parcel.Places.take_on.Given as goal

abbrev pub invariant-loop-callback : goal.invariant-loop-callback
invariant-loop-callback g l = record {
  moved : places_items l.self ++ batch_items l.batch ≡ places_items l.fn.self ++ batch_items l.fn.batch;
  room : BlockRoom l.self (length (batch_items l.batch));
}

abbrev pub decreases-loop-callback : goal.decreases-loop-callback
decreases-loop-callback g l = length (batch_items l.batch)
