-- What contracts see of what a hand holds: docs/specification/tables.md, "Places of a callback".
use Rattle.std.specs.Prelude.{List}
use Rattle.rcu_jobs.specs.declared.callback.Callback.{Callback}
use Rattle.rcu_lanes.specs.declared.ends.Front.{Front}
use Rattle.rcu_lists.specs.Batches.{batch_items}
use Rattle.rcu_lists.specs.declared.parcel.Parcel.{Parcel}
use Rattle.rcu_part_lists.specs.Ends.{before_end}
use Rattle.rcu_part_lists.specs.Lanes.{drawn_calls}
use Rattle.rcu_part_lists.specs.declared.hand.Held.{Held}
use Rattle.rcu_part_lists.specs.declared.limits.LaneLimits.{LaneLimits}

module _ {J : Type 0} where
  -- the end that it draws from
  abbrev pub front_of : Held J → Front (Parcel J) LaneLimits
  front_of h = h.inlet.front

  -- all callbacks drawn so far
  abbrev pub drawn_by : Held J → List (Callback J)
  drawn_by h = drawn_calls h.inlet.front

  -- those that it holds
  abbrev pub held_by : Held J → List (Callback J)
  held_by h = batch_items h.batch

  -- those that were drawn and taken
  abbrev pub taken_by : Held J → List (Callback J)
  taken_by h = before_end (drawn_by h) (held_by h)
