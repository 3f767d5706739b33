-- What contracts see of what a group holds of one member: docs/specification/tables.md, "Places of a callback".
use Rattle.std.specs.Prelude.{◌≡◌, ℕ, ◌+◌, ◌≤◌, ◌<◌, min, List, [], ◌++◌, length}
use Rattle.std.proofs.Common.{◌⊎◌}
use Rattle.rcu_jobs.specs.declared.callback.Callback.{Callback}
use Rattle.rcu_jobs.specs.declared.turns.Lists.{Lists}
use Rattle.rcu_jobs.specs.declared.turns.Lists.TheVariants.{Folk}
use Rattle.rcu_lanes.specs.Ends.{items_put, items_drawn}
use Rattle.rcu_lanes.specs.declared.ends.Front.{Front}
use Rattle.rcu_lanes.specs.declared.ends.Rear.{Rear}
use Rattle.rcu_lanes.specs.declared.ends.TheConstants.{FIRST_SLOTS}
use Rattle.rcu_lists.specs.Batches.{batch_items}
use Rattle.rcu_lists.specs.BlockSegments.{block_labelled, block_advanced_by}
use Rattle.rcu_lists.specs.Labels.{Done, Bare, Labelled, marked, count, is_done, lengths_of, numbers_of}
use Rattle.rcu_lists.specs.declared.batch.TheConstants.{INLINE_PLACES}
use Rattle.rcu_lists.specs.declared.parcel.Parcel.{Parcel}
use Rattle.rcu_part_lists.specs.Aims.{looked}
use Rattle.rcu_part_lists.specs.Lanes.{put_calls, drawn_calls}
use Rattle.rcu_part_lists.specs.declared.member_lists.MemberLists.{MemberLists}
use Rattle.rcu_part_lists.specs.declared.limits.LaneLimits.{LaneLimits}

-- how many batches of one member a turn of its group draws at most: docs/specification/rules.md, "The calls, step by
-- step", Group::turn
abbrev pub most_batches : ℕ
most_batches = 64

-- All that was drawn from the member's lane, in so many batches; the drawn batch that waits for room; the group's list
-- for the member, with the greatest number that this was advanced by; the batch that waits for the done lane; and all
-- that was put there, in so many batches.
pub record Relay (J : Type 0) : Type 0 where
  pub received : List (Callback J)
  pub draws : ℕ
  pub drawn : List (Callback J)
  pub list : List (Labelled J)
  pub advanced : ℕ
  pub out : List (Callback J)
  pub put : List (Callback J)
  pub batches : ℕ

module _ {J : Type 0} where
  abbrev pub relay : MemberLists J → Relay J
  relay m = record {
    received = drawn_calls m.inlet.front;
    draws = length (items_drawn m.inlet.front);
    drawn = batch_items m.drawn;
    list = block_labelled m.list;
    advanced = block_advanced_by m.list;
    out = batch_items m.out;
    put = put_calls m.outlet.rear;
    batches = length (items_put m.outlet.rear);
  }

  -- nothing has come
  abbrev pub nothing_relayed : Relay J
  nothing_relayed = record { received = []; draws = 0; drawn = []; list = []; advanced = 0; out = []; put = []; batches = 0 }

  -- the ends that it draws from and puts on
  abbrev pub front_of : MemberLists J → Front (Parcel J) LaneLimits
  front_of m = m.inlet.front

  abbrev pub rear_of : MemberLists J → Rear (Parcel J) LaneLimits
  rear_of m = m.outlet.rear

  -- the drawn batch joins the end of next
  abbrev pub joined : Relay J → Relay J
  joined r = record r { list = r.list ++ marked Bare r.drawn; drawn = [] }

  -- a batch was drawn, and waits
  pub record Draws (old new : Relay J) : Type 0 where
    pub received : new.received ≡ old.received ++ new.drawn
    pub one : new.draws ≡ old.draws + 1
    pub others : new ≡ record old { received = new.received; draws = new.draws; drawn = new.drawn }

  -- So many callbacks were drawn, in at most so many batches, and joined the end of next. The last batch may wait.
  pub record TakesIn (most took : ℕ) (old new : Relay J) : Type 0 where
    pub got : List (Callback J)
    pub joining : List (Callback J)
    pub number : length got ≡ took
    pub few : new.draws ≤ old.draws + most
    pub received : new.received ≡ old.received ++ got
    pub list : new.list ≡ old.list ++ marked Bare joining
    pub order : old.drawn ++ got ≡ joining ++ new.drawn
    pub others : new ≡ record old { received = new.received; draws = new.draws; drawn = new.drawn; list = new.list }

  -- the list after a look
  abbrev pub after_look : ℕ → Relay J → Relay J
  after_look seen r = record r { list = looked seen r.list; advanced = seen }

  -- where no batch waits, the first done ones, at most so many, are made one
  pub record Loads (most : ℕ) (old new : Relay J) : Type 0 where
    pub none_waits : old.out ≡ []
    pub front : old.list ≡ marked Done new.out ++ new.list
    pub number : length new.out ≡ min most (count is_done old.list)
    pub others : new ≡ record old { list = new.list; out = new.out }

  -- what waits for the done lane is put there, as one batch
  abbrev pub handed_on : Relay J → Relay J
  handed_on r = record r { put = r.put ++ r.out; batches = r.batches + 1; out = [] }

  -- it is put, so many; or it stays, as there is none or the lane found no room
  abbrev pub Hands : ℕ → Relay J → Relay J → Type 0
  Hands gave old new = ((gave ≡ length old.out) × (new ≡ handed_on old)) ⊎ ((gave ≡ 0) × (new ≡ old) × ((old.out ≡ []) ⊎ (FIRST_SLOTS ≤ old.batches)))

  -- A batch that waits is put; else the first done ones are, unless there is no memory for a batch of them. What is
  -- refused waits.
  pub record Gives (most gave : ℕ) (old new : Relay J) : Type 0 where
    pub between : Relay J
    pub loads : (between ≡ old) ⊎ Loads most old between
    -- as many as stand in a batch itself need no memory
    pub fits : old.out ≡ [] → min most (count is_done old.list) ≤ INLINE_PLACES → Loads most old between
    pub hands : Hands gave between new

  -- While the lane has room for its first batches, some of what is done is given, where no batch waits and no memory is
  -- needed.
  abbrev pub GivesSome : ℕ → ℕ → Relay J → Type 0
  GivesSome most gave old = old.out ≡ [] → old.batches < FIRST_SLOTS → min most (count is_done old.list) ≤ INLINE_PLACES → 0 < most → 0 < count is_done old.list → 0 < gave

  -- what is shown
  abbrev pub folk_lists : Relay J → Lists
  folk_lists r = Folk (lengths_of r.list) (numbers_of r.list)
