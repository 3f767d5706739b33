-- How the callbacks of one processor end: docs/specification/promises.md, "Headline on the running parts", close.
use Rattle.std.specs.Prelude.{◌≡◌, ℕ, ◌+◌, ◌≤◌, List, [], ◌++◌, map, length, take, drop, vec_capacity}
use Rattle.rcu_part_lists.specs.ProcessorLists.{Holding, held_in, put_by, passed_on}
use Rattle.rcu_jobs.specs.Records.{Given}
use Rattle.rcu_jobs.specs.declared.callback.Callback.{Callback}
use Rattle.rcu_jobs.specs.declared.callback.Record.{Record}
use Rattle.rcu_part_order.specs.Order.{between, times}
use Rattle.rcu_part_order.specs.Places.{Accepted, Placed, keys_of, numbered}
use Rattle.rcu_part_order.specs.Callbacks.{AreKeyed, numbered_callbacks}
use Rattle.rcu_part_order.specs.Records.{AreOfBoth, AreRipe, AreSeenBy, numbered_records}
use Rattle.rcu_part_close.specs.Moving.{jobs_of}
use Rattle.rcu_part_close.specs.declared.ended.ProcessorEnd.{ProcessorEnd}

-- Each number below m is that of one record of the two lists, and no other number is.
abbrev pub AreOnceBelow : {R : Type 0} → ℕ → List (Record R) → List (Record R) → Type 0
AreOnceBelow m own hands = (j : ℕ) → times j (numbered_records own) + times j (numbered_records hands) ≡ between 0 m j

module _ {J : Type 0} where
  -- What the processor put on its lane and its hand didn't take, and then what the processor holds.
  abbrev pub left_of : Holding J → List (Callback J) → List (Callback J)
  left_of h taken = drop (length taken) (put_by h) ++ held_in h

module _ {R : Type 0} where
  -- The records are those of the accepted numbers 0 to m - 1, with their keys and stamps, and the wait of each was over.
  pub record IsEnd (accepted : List Accepted) (m : ℕ) (ran : List (Record R)) : Type 0 where
    pub within : m ≤ length accepted
    pub ran_is : numbered_records ran ≡ take m (numbered 0 accepted)
    pub ripe : AreRipe ran

module _ {J R : Type 0} where
  -- The law of places of a processor at rest, and of its hand: what the processor accepted is what it ran and what it put on
  -- its lane, in some order, and then what it holds; what the hand took is what it ran.
  pub record AreInPlace (accepted : List Accepted) (own hands : List (Record R)) (h : Holding J) (taken : List (Callback J)) : Type 0 where
    pub processor : ∥ Placed accepted (numbered_records own) (numbered_callbacks (put_by h)) (numbered_callbacks (held_in h)) ∥₁
    pub hand : numbered_callbacks taken ≡ numbered_records hands

  -- What is known of jobs: each callback has its job's key, and each receipt is as the relation wants it; of a hand's, where
  -- each callback that it took has its job's key.
  pub record AreSound (key_of : J → ℕ) (gives : ℕ → R → Type 0) (own hands : List (Record R)) (h : Holding J) (drawn : List (Callback J)) : Type 0 where
    pub keyed : AreKeyed key_of (passed_on h)
    pub own_given : Given gives own
    pub hands_given : AreKeyed key_of drawn → Given gives hands

  -- What is known of jobs then: those that are handed back have the keys of the numbers from m on, in order, and each receipt
  -- is as the relation wants it.
  pub record IsSoundEnd (key_of : J → ℕ) (gives : ℕ → R → Type 0) (accepted : List Accepted) (m : ℕ) (ran : List (Record R)) (back : List J) : Type 0 where
    pub back_is : map key_of back ≡ drop m (keys_of accepted)
    pub given : Given gives ran

  -- How a processor ended that had these records and lists, and its hand these records, and took these callbacks of those
  -- that it drew. At what number the turns stood is learnt from the last loads alone, once all parts have ended.
  pub record EndsWith (key_of : J → ℕ) (gives : ℕ → R → Type 0) (own hands : List (Record R)) (h : Holding J) (taken drawn : List (Callback J)) (ran : List (Record R)) (back : List J) : Type 0 where
    -- where each number below m was claimed once, by processor or hand, and no other was
    pub ends : (accepted : List Accepted) (m : ℕ) → AreInPlace accepted own hands h taken → AreRipe own → AreRipe hands → AreOnceBelow m own hands
        → IsEnd accepted m ran
    -- and where jobs were sound
    pub sound : (accepted : List Accepted) (m : ℕ) → AreInPlace accepted own hands h taken → AreOnceBelow m own hands → AreSound key_of gives own hands h drawn
        → IsSoundEnd key_of gives accepted m ran back
    -- no record is later than those of which it was made
    pub seen : (x : ℕ) → AreSeenBy x own → AreSeenBy x hands → AreSeenBy x ran
    -- each record is one of those, whole: it has the sight by which it ran, and the receipt
    pub records : AreOfBoth own hands ran
    -- handed back are the jobs of what is left, and no others
    pub jobs : back ≡ jobs_of (left_of h taken)
    -- and that is what has the numbers from m on
    pub left : (accepted : List Accepted) (m : ℕ) → AreInPlace accepted own hands h taken → AreOnceBelow m own hands
        → numbered_callbacks (left_of h taken) ≡ drop m (numbered 0 accepted)

  -- nothing is there yet, and there is room for so many records and jobs
  pub record HasRoom (records jobs : ℕ) (room : ProcessorEnd J R) : Type 0 where
    pub no_record : room.ran.items ≡ []
    pub no_job : room.back.items ≡ []
    pub for_records : records ≤ vec_capacity room.ran
    pub for_jobs : jobs ≤ vec_capacity room.back
