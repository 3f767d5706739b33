-- What contracts see of a batch.
use Rattle.std.specs.Prelude.{ℕ, List, drop}
use Rattle.rcu_jobs.specs.declared.callback.Callback.{Callback}
use Rattle.smallvec.specs.SmallVec.{HasRoomFor}
use Rattle.rcu_lists.specs.Filled.{filled}
use Rattle.rcu_lists.specs.declared.batch.Batch.{Batch}

module _ {J : Type 0} where
  -- its callbacks, first one first
  abbrev pub batch_items : Batch J → List (Callback J)
  batch_items b = filled (drop b.next b.slots.items)

  -- so many more fit with no memory
  abbrev pub HasRoom : Batch J → ℕ → Type 0
  HasRoom b more = HasRoomFor b.slots more
