-- What contracts see of the lists of a processor: docs/specification/tables.md, "Places of a callback".
use Rattle.std.specs.Prelude.{◌≡◌, ◌≤◌, ℕ, Bool, true, false, ◌&&◌, ◌||◌, not, if◌then◌else◌, List, [], ◌∷◌, ◌++◌, length}
use Rattle.std.proofs.Common.{◌⊎◌}
use Rattle.rcu_jobs.specs.declared.callback.Callback.{Callback}
use Rattle.rcu_jobs.specs.declared.turns.Lists.{Lists}
use Rattle.rcu_jobs.specs.declared.turns.Lists.TheVariants.{Cpu}
use Rattle.rcu_jobs.specs.declared.modes.Mode.{Mode}
use Rattle.rcu_jobs.specs.declared.modes.Mode.TheVariants.{Offloading, Offloaded, Deoffloading}
use Rattle.rcu_lanes.specs.declared.ends.Rear.{Rear}
use Rattle.rcu_lists.specs.Bypasses.{BypassRoom}
use Rattle.rcu_lists.specs.Labels.{Bare, Labelled, callbacks_of, lengths_of, numbers_of}
use Rattle.rcu_lists.specs.Release.{beginning, is_any}
use Rattle.rcu_lists.specs.Segments.{labelled, advanced_by, SegmentsRoom}
use Rattle.rcu_lists.specs.declared.batch.TheConstants.{INLINE_PLACES}
use Rattle.rcu_lists.specs.declared.pace.Kind.{Kind}
use Rattle.rcu_lists.specs.declared.parcel.Parcel.{Parcel}
use Rattle.rcu_part_lists.specs.Aims.{looked}
use Rattle.rcu_jobs.specs.Modes.{first_mode, is_offloaded, is_offloading}
use Rattle.rcu_part_lists.specs.Outgoing.{Outgoing, outgoing, kept, is_due_with, IsReleased, IsReleasedIfAny, is_due_in_tick, in_tick, poured}
use Rattle.rcu_part_lists.specs.declared.processor_lists.ProcessorLists.{ProcessorLists}
use Rattle.rcu_part_lists.specs.declared.limits.LaneLimits.{LaneLimits}

-- Its mode, the count accepted at its last entry to Deoffloading, its own list with the greatest number that this was
-- advanced by, and its bypass list with what was put on the lane.
pub record Holding (J : Type 0) : Type 0 where
  pub mode : Mode
  pub left : ℕ
  pub own : List (Labelled J)
  pub advanced : ℕ
  pub outgoing : Outgoing J

module _ {J : Type 0} where
  abbrev pub holding : ProcessorLists J → Holding J
  holding c = record {
    mode = c.mode;
    left = c.left;
    own = labelled c.own;
    advanced = advanced_by c.own;
    outgoing = outgoing c.outlet.rear c.bypass;
  }

  -- the lists of a processor that has accepted nothing
  abbrev pub first_holding : Bool → ℕ → Holding J
  first_holding offloadable qhimark = record {
    mode = first_mode offloadable;
    left = 0;
    own = [];
    advanced = 0;
    outgoing = record { put = []; batches = 0; bypass = []; pace = beginning; qhimark = qhimark };
  }

  -- the end that it puts on
  abbrev pub rear_of : ProcessorLists J → Rear (Parcel J) LaneLimits
  rear_of c = c.outlet.rear

  -- all callbacks that it ever put on its lane
  abbrev pub put_by : Holding J → List (Callback J)
  put_by h = h.outgoing.put

  -- all callbacks in its lists
  abbrev pub held_in : Holding J → List (Callback J)
  held_in h = h.outgoing.bypass ++ callbacks_of h.own

  -- what left for the lane, and then what is held
  abbrev pub passed_on : Holding J → List (Callback J)
  passed_on h = put_by h ++ held_in h

  -- room for one more in the list that a new callback goes to
  abbrev pub IsReady : ProcessorLists J → Type 0
  IsReady c = (is_offloaded c.mode ≡ true → BypassRoom c.bypass 1) × (is_offloaded c.mode ≡ false → SegmentsRoom c.own 1)

  -- a new callback is at the end of the own list
  abbrev pub enqueued : Callback J → Holding J → Holding J
  enqueued c h = record h { own = h.own ++ record { label = Bare; callback = c } ∷ [] }

  -- What becomes of a new callback: outside Offloaded it is in the own list; in Offloaded it is kept in the bypass list,
  -- or it releases that.
  pub record Takes (moment : ℕ) (kind : Kind) (c : Callback J) (old new : Holding J) : Type 0 where
    pub own : is_offloaded old.mode ≡ false → new ≡ enqueued c old
    pub waits : is_offloaded old.mode ≡ true → is_due_with moment kind old.outgoing ≡ false → new ≡ record old { outgoing = kept moment kind c old.outgoing }
    pub releases : is_offloaded old.mode ≡ true → is_due_with moment kind old.outgoing ≡ true
        → IsReleased (kept moment kind c old.outgoing) new.outgoing × (new ≡ record old { outgoing = new.outgoing })

  -- A tick's release: the bypass list is put, or is as it was.
  pub record Releases (moment : ℕ) (leaving urged : Bool) (old new : Holding J) : Type 0 where
    pub stays : is_due_in_tick moment leaving urged old.outgoing ≡ false → new ≡ old
    pub releases : is_due_in_tick moment leaving urged old.outgoing ≡ true → IsReleased (in_tick moment old.outgoing) new.outgoing
    pub others : new ≡ record old { outgoing = new.outgoing }

  -- The bypass list is put, where it isn't empty, whatever the moment: its last moment and its count stay.
  pub record PutsBypass (old new : Holding J) : Type 0 where
    pub outgoing : IsReleasedIfAny old.outgoing new.outgoing
    pub others : new ≡ record old { outgoing = new.outgoing }

  -- the own list after a look
  abbrev pub after_look : ℕ → Holding J → Holding J
  after_look seen h = record h { own = looked seen h.own; advanced = seen }

  -- asked off, with so many accepted: Offloading becomes Deoffloading, and Offloaded once its bypass list is empty
  abbrev pub asked_off : ℕ → Holding J → Holding J
  asked_off accepted h =
      if is_offloading h.mode || (is_offloaded h.mode && not (is_any h.outgoing.bypass)) then record h { mode = Deoffloading; left = accepted } else h

  -- asked on, where room to pour was found: the own list is poured, and a bypass list that isn't empty is put on the lane
  pub record Pours (old new : Holding J) : Type 0 where
    pub outgoing : IsReleasedIfAny (poured (callbacks_of old.own) old.outgoing) new.outgoing
    pub others : new ≡ record old { mode = Offloaded; own = []; outgoing = new.outgoing }

  -- Asked on: Offloaded stays; every other mode becomes Offloading, and in this tick Offloaded, unless there is no room to pour.
  pub record AskedOn (old new : Holding J) : Type 0 where
    pub stays : is_offloaded old.mode ≡ true → new ≡ old
    pub leads : is_offloaded old.mode ≡ false → Pours old new ⊎ (new ≡ record old { mode = Offloading })
    -- there is room for as many as stand in the bypass list itself, which is empty then
    pub fits : is_offloaded old.mode ≡ false → length old.own ≤ INLINE_PLACES → Pours old new

  -- what is shown
  abbrev pub cpu_lists : ℕ → Holding J → Lists
  cpu_lists accepted h = Cpu h.mode accepted (length h.outgoing.bypass) (lengths_of h.own) (numbers_of h.own)
