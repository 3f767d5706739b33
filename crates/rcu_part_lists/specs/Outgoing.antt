-- A bypass list and the lane that it is released on: docs/specification/rules.md, "Bypass lists".
use Rattle.std.specs.Prelude.{◌≡◌, ℕ, ◌+◌, ◌≤◌, Bool, true, false, ◌&&◌, ◌||◌, List, [], ◌∷◌, ◌++◌, length}
use Rattle.std.proofs.Common.{◌⊎◌}
use Rattle.rcu_jobs.specs.declared.callback.Callback.{Callback}
use Rattle.rcu_lanes.specs.Ends.{items_put}
use Rattle.rcu_lanes.specs.declared.ends.Rear.{Rear}
use Rattle.rcu_lanes.specs.declared.ends.TheConstants.{FIRST_SLOTS}
use Rattle.rcu_lists.specs.Bypasses.{bypass_items, bypass_pace, bypass_qhimark}
use Rattle.rcu_lists.specs.Release.{held, is_due, is_late, ticked, emptied, refilled, joined_plain, is_any}
use Rattle.rcu_lists.specs.declared.bypass.Bypass.{Bypass}
use Rattle.rcu_lists.specs.declared.pace.Kind.{Kind}
use Rattle.rcu_lists.specs.declared.pace.Pace.{Pace}
use Rattle.rcu_lists.specs.declared.parcel.Parcel.{Parcel}
use Rattle.rcu_part_lists.specs.Lanes.{put_calls}

-- the bypass list with its pace, and what was put on the lane, in so many batches
pub record Outgoing (J : Type 0) : Type 0 where
  pub put : List (Callback J)
  pub batches : ℕ
  pub bypass : List (Callback J)
  pub pace : Pace
  pub qhimark : ℕ

module _ {J : Type 0} where
  abbrev pub outgoing : {L : Type 0} → Rear (Parcel J) L → Bypass J → Outgoing J
  outgoing rear bypass = record {
    put = put_calls rear;
    batches = length (items_put rear);
    bypass = bypass_items bypass;
    pace = bypass_pace bypass;
    qhimark = bypass_qhimark bypass;
  }

  -- a callback is in the list, whether or not that is due to be released
  abbrev pub kept : ℕ → Kind → Callback J → Outgoing J → Outgoing J
  kept moment kind c o = record o { bypass = o.bypass ++ c ∷ []; pace = held moment kind o.pace (length o.bypass + 1) }

  -- the list is due to be released as it takes a callback on
  abbrev pub is_due_with : ℕ → Kind → Outgoing J → Bool
  is_due_with moment kind o = is_due moment kind o.pace (length o.bypass + 1) o.qhimark

  -- the whole list was put on the lane, as one batch
  abbrev pub sent : Outgoing J → Outgoing J
  sent o = record o { put = o.put ++ o.bypass; batches = o.batches + 1; bypass = []; pace = emptied o.pace }

  -- the lane found no room, and the batch is the bypass list again: all of it counts as plain
  abbrev pub sent_back : Outgoing J → Outgoing J
  sent_back o = record o { pace = refilled o.bypass o.pace }

  -- The list is released: it was put, or the lane found no room, which it has for its first batches.
  abbrev pub IsReleased : Outgoing J → Outgoing J → Type 0
  IsReleased old new = (new ≡ sent old) ⊎ ((FIRST_SLOTS ≤ old.batches) × (new ≡ sent_back old))

  -- What was taken out of the list is put, as one batch; or the lane found no room, and it is the list again.
  abbrev pub IsSentOrBack : List (Callback J) → Outgoing J → Outgoing J → Type 0
  IsSentOrBack cs old new = (new ≡ record old { put = old.put ++ cs; batches = old.batches + 1 })
      ⊎ ((FIRST_SLOTS ≤ old.batches) × (new ≡ record old { bypass = cs; pace = refilled cs old.pace }))

  -- a list that isn't empty is released
  pub record IsReleasedIfAny (old new : Outgoing J) : Type 0 where
    pub none : is_any old.bypass ≡ false → new ≡ old
    pub some : is_any old.bypass ≡ true → IsReleased old new

  -- a tick releases the list: because of its moment, or where the processor is asked to leave, or was urged by a barrier
  abbrev pub is_due_in_tick : ℕ → Bool → Bool → Outgoing J → Bool
  is_due_in_tick moment leaving urged o = is_any o.bypass && (is_late moment o.pace || (leaving || urged))

  -- the pace of a list that a tick releases
  abbrev pub in_tick : ℕ → Outgoing J → Outgoing J
  in_tick moment o = record o { pace = ticked moment o.pace }

  -- callbacks of the processor's own list are poured into the list
  abbrev pub poured : List (Callback J) → Outgoing J → Outgoing J
  poured cs o = record o { bypass = o.bypass ++ cs; pace = joined_plain cs o.pace }
