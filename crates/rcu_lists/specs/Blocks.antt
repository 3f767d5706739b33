-- Callbacks in blocks on the heap.
use Rattle.std.specs.Prelude.{ℕ, ◌+◌, ◌≤◌, List, length, vec_capacity}
use Rattle.std.specs.List.{flat_map}
use Rattle.rcu_jobs.specs.declared.callback.Callback.{Callback}
use Rattle.rcu_lists.specs.Parcels.{places_items}
use Rattle.rcu_lists.specs.declared.parcel.Places.{Places}

module _ {J : Type 0} where
  -- the callbacks of blocks, block after block
  abbrev pub blocks_items : List (Places J) → List (Callback J)
  blocks_items blocks = flat_map places_items blocks

  -- so many more fit into a block with no memory
  abbrev pub BlockRoom : Places J → ℕ → Type 0
  BlockRoom block more = length block.slots.items + more ≤ vec_capacity block.slots
