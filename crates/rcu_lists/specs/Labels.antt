-- The labelled list: callbacks in order, each with a label that says how far it has come:
-- docs/specification/definitions.md, "Lists".
use Rattle.std.specs.Prelude.{◌≡◌, ℕ, ◌≤◌, Bool, true, false, ◌==◌, nat_lt, nat_le, if◌then◌else◌, List, [], ◌∷◌, length, map, All, count_by, IsTrue, Option, Some, None, slice_get, slice_index}
use Rattle.rcu_jobs.specs.declared.callback.Callback.{Callback}
use Rattle.rcu_numbers.specs.Numbers.{snap_of}

-- done, waiting for the number of a grace period, or without a number yet
pub data Label : Type 0 where
  Done : Label
  Numbered : ℕ → Label
  Bare : Label

pub record Labelled (J : Type 0) : Type 0 where
  pub label : Label
  pub callback : Callback J

abbrev pub is_done : Label → Bool
is_done Done = true
is_done (Numbered n) = false
is_done Bare = false

abbrev pub is_bare : Label → Bool
is_bare Done = false
is_bare (Numbered n) = false
is_bare Bare = true

abbrev pub is_numbered : ℕ → Label → Bool
is_numbered s Done = false
is_numbered s (Numbered n) = n == s
is_numbered s Bare = false

-- the second label may follow the first in a list
abbrev pub may_follow : Label → Label → Bool
may_follow Done next = true
may_follow (Numbered n) Done = false
may_follow (Numbered n) (Numbered m) = nat_le n m
may_follow (Numbered n) Bare = true
may_follow Bare next = is_bare next

-- the label after the grace period of this number
abbrev pub advanced : ℕ → Label → Label
advanced s Done = Done
advanced s (Numbered n) = if nat_le n s then Done else Numbered n
advanced s Bare = Bare

-- the label once this number is given to all that have none
abbrev pub given : ℕ → Label → Label
given s Done = Done
given s (Numbered n) = Numbered n
given s Bare = Numbered s

-- a label's number, before the numbers of the labels after it
abbrev pub with_number : Label → List ℕ → List ℕ
with_number Done ns = ns
with_number (Numbered n) [] = n ∷ []
with_number (Numbered n) (m ∷ ns) = if n == m then m ∷ ns else n ∷ m ∷ ns
with_number Bare ns = ns

-- Whether a callback's label is no earlier than its stamp asks, in a list whose greatest number advanced by is known:
-- it waits at least for the snap of its stamp, and is done only where the list was advanced by as much.
abbrev pub is_graced : ℕ → Label → ℕ → Bool
is_graced advanced Done stamp = nat_le (snap_of stamp) advanced
is_graced advanced (Numbered n) stamp = nat_le (snap_of stamp) n
is_graced advanced Bare stamp = true

-- no number is above s
abbrev pub IsUpTo : ℕ → Label → Type 0
IsUpTo s Done = Unit {0}
IsUpTo s (Numbered n) = n ≤ s
IsUpTo s Bare = Unit {0}

module _ {J : Type 0} where
  -- callbacks that all have this label
  abbrev pub marked : Label → List (Callback J) → List (Labelled J)
  marked label cs = map (λ c. record { label = label; callback = c }) cs

  abbrev pub callbacks_of : List (Labelled J) → List (Callback J)
  callbacks_of xs = map (λ x. x.callback) xs

  abbrev pub relabel : (Label → Label) → Labelled J → Labelled J
  relabel f x = record { label = f x.label; callback = x.callback }

  -- each number once, in the order of the list
  abbrev pub numbers_in : List (Labelled J) → List ℕ
  numbers_in [] = []
  numbers_in (x ∷ xs) = with_number x.label (numbers_in xs)

  -- the labels may follow one another, the first of them this one
  abbrev pub in_order : Label → List (Labelled J) → Bool
  in_order before [] = true
  in_order before (x ∷ xs) = if may_follow before x.label then in_order x.label xs else false

  -- done ones, numbers that do not fall, bare ones, and at most two numbers
  abbrev pub IsLabelledList : List (Labelled J) → Type 0
  IsLabelledList xs = (in_order Done xs ≡ true) × (length (numbers_in xs) ≤ 2)

  abbrev pub count : (Label → Bool) → List (Labelled J) → ℕ
  count test xs = count_by (λ x. test x.label) xs

  abbrev pub carries : ℕ → List (Labelled J) → Bool
  carries s xs = nat_lt 0 (count (is_numbered s) xs)

  abbrev pub has_two_below : ℕ → List (Labelled J) → Bool
  has_two_below s xs = nat_lt 1 (count_by (λ n. nat_lt n s) (numbers_in xs))

  -- the list after the grace period of this number
  abbrev pub after_advance : ℕ → List (Labelled J) → List (Labelled J)
  after_advance s xs = map (relabel (advanced s)) xs

  -- the list once the bare ones have this number, for which there is no room beside two others
  abbrev pub after_accelerate : ℕ → List (Labelled J) → List (Labelled J)
  after_accelerate s xs = if has_two_below s xs then xs else map (relabel (given s)) xs

  -- each number is at least the snap of its callback's stamp, and no callback is done whose stamp has a greater one
  -- than the list was advanced by
  abbrev pub IsGraced : ℕ → List (Labelled J) → Type 0
  IsGraced advanced xs = All (λ x. IsTrue (is_graced advanced x.label x.callback.stamp)) xs

  -- the grace period of this number serves every callback
  abbrev pub MayAccelerate : ℕ → List (Labelled J) → Type 0
  MayAccelerate s xs = All (λ x. IsUpTo s x.label × (snap_of x.callback.stamp ≤ s)) xs

  abbrev pub count_of : Option ℕ → List (Labelled J) → ℕ
  count_of None xs = 0
  count_of (Some n) xs = count (is_numbered n) xs

  -- how many are done, carry the least number, carry the other one, are bare
  abbrev pub lengths_of : List (Labelled J) → List ℕ
  lengths_of xs = count is_done xs ∷ count_of (slice_get (numbers_in xs) 0) xs ∷ count_of (slice_get (numbers_in xs) 1) xs ∷ count is_bare xs ∷ []

  -- the least number and the other one, 0 where there is none
  abbrev pub numbers_of : List (Labelled J) → List ℕ
  numbers_of xs = slice_index (numbers_in xs) 0 ∷ slice_index (numbers_in xs) 1 ∷ []
