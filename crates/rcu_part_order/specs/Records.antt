-- Records by their numbers: docs/specification/definitions.md, "Places".
use Rattle.std.specs.Prelude.{ℕ, ◌≤◌, ◌⊎◌, nat_lt, if◌then◌else◌, Bool, Contains, true, false, List, [], ◌∷◌, map, All}
use Rattle.rcu_jobs.specs.declared.callback.Record.{Record}
use Rattle.rcu_numbers.specs.Numbers.{snap_of}
use Rattle.rcu_part_order.specs.Places.{Numbered}

-- a record without what its job gave
abbrev pub numbered_record : {R : Type 0} → Record R → Numbered
numbered_record r = record { number = r.number; key = r.key; stamp = r.stamp }

abbrev pub numbered_records : {R : Type 0} → List (Record R) → List Numbered
numbered_records rs = map numbered_record rs

-- the wait of each was over
abbrev pub AreRipe : {R : Type 0} → List (Record R) → Type 0
AreRipe rs = All (λ r. snap_of r.stamp ≤ r.ready) rs

-- none was claimed at a board sight above x
abbrev pub AreSeenBy : {R : Type 0} → ℕ → List (Record R) → Type 0
AreSeenBy x rs = All (λ r. r.ready ≤ x) rs

-- each of these is a record of one of the two lists, whole
abbrev pub AreOfBoth : {R : Type 0} → List (Record R) → List (Record R) → List (Record R) → Type 0
AreOfBoth own hands rs = All (λ r. Contains own r ⊎ Contains hands r) rs

-- the next record by its number is the hand's, unless the processor has one with a number that is not greater
abbrev pub is_hands_next : {R : Type 0} → List (Record R) → List (Record R) → Bool
is_hands_next [] hands = true
is_hands_next (r ∷ own) [] = false
is_hands_next (r ∷ own) (h ∷ hands) = nat_lt h.number r.number

-- a record among those of the other list, behind those whose numbers are below its own; `rest` merges what comes behind it
abbrev pub before : {R : Type 0} → Record R → (List (Record R) → List (Record R)) → List (Record R) → List (Record R)
before r rest [] = r ∷ rest []
before r rest (h ∷ hs) = if nat_lt h.number r.number then h ∷ before r rest hs else r ∷ rest (h ∷ hs)

-- the records of two lists as one, by their numbers, which rise in both
abbrev pub by_number : {R : Type 0} → List (Record R) → List (Record R) → List (Record R)
by_number [] hands = hands
by_number (r ∷ own) hands = before r (by_number own) hands
