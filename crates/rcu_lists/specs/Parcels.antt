-- What contracts see of what goes over a lane.
use Rattle.std.specs.Prelude.{List, [], ◌∷◌, drop}
use Rattle.smallvec.specs.SmallVec.{IsSpilled}
use Rattle.rcu_jobs.specs.declared.callback.Callback.{Callback}
use Rattle.rcu_lists.specs.Filled.{filled}
use Rattle.rcu_lists.specs.declared.batch.Batch.{Batch}
use Rattle.rcu_lists.specs.declared.batch.TheConstants.{INLINE_PLACES}
use Rattle.rcu_lists.specs.declared.parcel.Parcel.{Parcel}
use Rattle.rcu_lists.specs.declared.parcel.Parcel.TheVariants.{One, Many}
use Rattle.rcu_lists.specs.declared.parcel.Places.{Places}

module _ {J : Type 0} where
  -- the callbacks of such places, first one first
  abbrev pub places_items : Places J → List (Callback J)
  places_items p = filled (drop p.next p.slots.items)

  -- its callbacks, first one first
  abbrev pub parcel_items : Parcel J → List (Callback J)
  parcel_items (One callback) = callback ∷ []
  parcel_items (Many places) = places_items places

  -- its callbacks stand on the heap
  abbrev pub IsOnHeap : Batch J → Type 0
  IsOnHeap b = IsSpilled INLINE_PLACES b.slots
