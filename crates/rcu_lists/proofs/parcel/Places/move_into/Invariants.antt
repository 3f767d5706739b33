use Rattle.std.proofs.Common.{◌≡◌, ℕ, ◌+◌, ◌-◌, ◌++◌, take, drop}
use Rattle.rcu_lists.specs.Blocks.{BlockRoom}
use Rattle.rcu_lists.specs.Parcels.{places_items}
use Rattle.rcu_lists.proofs.parcel.Places.move_into.Given as goal

abbrev pub invariant-loop : goal.invariant-loop
invariant-loop g l = record {
  moved : places_items l.to ≡ places_items l.initial.to ++ take l.counter (places_items l.initial.self);
  left : places_items l.self ≡ drop l.counter (places_items l.initial.self);
  room : BlockRoom l.to (l.number - l.counter);
  left_room : (k : ℕ) → BlockRoom l.initial.to (l.counter + k) → BlockRoom l.to k;
}
