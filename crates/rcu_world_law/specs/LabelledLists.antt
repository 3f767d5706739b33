-- Labelled lists: callbacks, each done, with a number, or bare (`docs/specification/definitions.md`, "Lists").
use Rattle.std.specs.Prelude.{ℕ, ◌+◌, ◌≤◌, ◌≡◌, Bool, true, false, ◌||◌, ◌==◌, not, nat_le, nat_lt, max, if◌then◌else◌, List, [], ◌∷◌, map, count_by, slice_get, slice_index, Option, Some, None, ◌⊎◌}
use Rattle.std.specs.List.{AllByRecursion}
use Rattle.rcu_world_law.specs.declared.labels.Label.{Label}
use Rattle.rcu_world_law.specs.declared.labels.Label.TheVariants.{Done, At, Bare}
use Rattle.rcu_world_law.specs.Calls.{Call}
use Rattle.rcu_numbers.specs.Numbers.{snap_of}

pub record Labelled : Type 0 where
  pub call : Call
  pub label : Label

-- a callback that was just added
abbrev pub bare : Call → Labelled
bare f = record { call = f; label = Bare }

-- the callback, without its label
abbrev pub call_of : Labelled → Call
call_of w = w.call

-- What a labelled list is.

-- which label may stand before which: done, then numbers that don't fall, then bare
abbrev pub IsBefore : Label → Label → Type 0
IsBefore Done later = Unit {0}
IsBefore (At m) Done = ⊥
IsBefore (At m) (At k) = m ≤ k
IsBefore (At m) Bare = Unit {0}
IsBefore Bare Done = ⊥
IsBefore Bare (At k) = ⊥
IsBefore Bare Bare = Unit {0}

abbrev pub AreInOrder : List Labelled → Type 0
AreInOrder [] = Unit {0}
AreInOrder (w ∷ ws) = AllByRecursion (λ v. IsBefore w.label v.label) ws × AreInOrder ws

-- the number, where there is one, is one of these two
abbrev pub IsOneOf : ℕ → ℕ → Label → Type 0
IsOneOf a b Done = Unit {0}
IsOneOf a b (At m) = (m ≡ a) ⊎ (m ≡ b)
IsOneOf a b Bare = Unit {0}

-- the number, where there is one, is at most s
abbrev pub IsUpTo : ℕ → Label → Type 0
IsUpTo s Done = Unit {0}
IsUpTo s (At m) = m ≤ s
IsUpTo s Bare = Unit {0}

-- "Labelled list": done, with a number, or bare, in this order, the numbers not falling, at most two different ones
pub record IsLabelledList (ws : List Labelled) : Type 0 where
  pub order : AreInOrder ws
  pub first : ℕ
  pub second : ℕ
  pub two : AllByRecursion (λ w. IsOneOf first second w.label) ws

-- What `accelerate(s)` asks (`docs/specification/rules.md`, "Callback lists"): s is at least each number in the list and
-- at least `snap` of each stamp in it
pub record MayAccelerate (s : ℕ) (ws : List Labelled) : Type 0 where
  pub numbers : AllByRecursion (λ w. IsUpTo s w.label) ws
  pub stamps : AllByRecursion (λ w. snap_of w.call.stamp ≤ s) ws

-- What is done with one.

abbrev pub is_done : Label → Bool
is_done Done = true
is_done (At m) = false
is_done Bare = false

-- the label is the number s
abbrev pub is_at : ℕ → Label → Bool
is_at s Done = false
is_at s (At m) = m == s
is_at s Bare = false

abbrev pub advanced_label : ℕ → Label → Label
advanced_label s Done = Done
advanced_label s (At m) = if nat_le m s then Done else At m
advanced_label s Bare = Bare

abbrev pub accelerated_label : ℕ → Label → Label
accelerated_label s Done = Done
accelerated_label s (At m) = At m
accelerated_label s Bare = At s

abbrev pub relabelled : (Label → Label) → Labelled → Labelled
relabelled f w = record { call = w.call; label = f w.label }

-- `advance(s)` labels as done all whose number is at most s
abbrev pub advance : ℕ → List Labelled → List Labelled
advance s ws = map (relabelled (advanced_label s)) ws

-- the label is a number below s
abbrev pub is_below : ℕ → Label → Bool
is_below s Done = false
is_below s (At m) = nat_lt m s
is_below s Bare = false

abbrev pub number_of : Label → ℕ
number_of Done = 0
number_of (At m) = m
number_of Bare = 0

-- some number below s differs from m
abbrev pub has_other : ℕ → ℕ → List Labelled → Bool
has_other s m [] = false
has_other s m (w ∷ ws) = (if is_below s w.label then not (number_of w.label == m) else false) || has_other s m ws

-- two different numbers below s are there
abbrev pub has_two : ℕ → List Labelled → Bool
has_two s [] = false
has_two s (w ∷ ws) = if is_below s w.label then has_other s (number_of w.label) ws else has_two s ws

-- the same of the rest of a list, where m is the first number below s so far
abbrev pub has_two_after : ℕ → Option ℕ → List Labelled → Bool
has_two_after s None ws = has_two s ws
has_two_after s (Some m) ws = has_other s m ws

-- `accelerate(s)` labels all bare ones with s, unless two different numbers below s are there
abbrev pub accelerate : ℕ → List Labelled → List Labelled
accelerate s ws = if has_two s ws then ws else map (relabelled (accelerated_label s)) ws

-- what `accelerate(s)` answers: whether some callback now carries s
abbrev pub carries : ℕ → List Labelled → Bool
carries s [] = false
carries s (w ∷ ws) = is_at s w.label || carries s ws

-- the greatest of s and the stamps in the list
abbrev pub newest : ℕ → List Labelled → ℕ
newest s [] = s
newest s (w ∷ ws) = newest (max s w.call.stamp) ws

-- a look that shows s: the list is advanced by s, then accelerated by `snap` of the greater of s and the newest stamp in
-- it (`docs/specification/rules.md`, "The calls, step by step")
abbrev pub looked : ℕ → List Labelled → List Labelled
looked s ws = accelerate (snap_of (newest s (advance s ws))) (advance s ws)

-- the number that is to be asked for after that look, where `accelerate` answered true
abbrev pub wanted_by_look : ℕ → List Labelled → Option ℕ
wanted_by_look s ws = if carries (snap_of (newest s (advance s ws))) (looked s ws) then Some (snap_of (newest s (advance s ws))) else None

-- how many done ones stand at the front
abbrev pub done_count : List Labelled → ℕ
done_count [] = 0
done_count (w ∷ ws) = if is_done w.label then 1 + done_count ws else 0

-- What is shown of one: `lengths` are the counts of done, the least number, the other number, and bare; `numbers` are
-- those two, 0 where there is none.

abbrev pub is_bare : Label → Bool
is_bare Done = false
is_bare (At m) = false
is_bare Bare = true

-- a label's number, before the numbers of the labels after it
abbrev pub with_number : Label → List ℕ → List ℕ
with_number Done ns = ns
with_number (At m) [] = m ∷ []
with_number (At m) (n ∷ ns) = if m == n then n ∷ ns else m ∷ n ∷ ns
with_number Bare ns = ns

-- each number once, in the order of the list
abbrev pub numbers_in : List Labelled → List ℕ
numbers_in [] = []
numbers_in (w ∷ ws) = with_number w.label (numbers_in ws)

abbrev pub count_labels : (Label → Bool) → List Labelled → ℕ
count_labels test ws = count_by (λ w. test w.label) ws

abbrev pub count_number : Option ℕ → List Labelled → ℕ
count_number None ws = 0
count_number (Some n) ws = count_labels (is_at n) ws

abbrev pub lengths_of : List Labelled → List ℕ
lengths_of ws =
    count_labels is_done ws ∷ count_number (slice_get (numbers_in ws) 0) ws ∷ count_number (slice_get (numbers_in ws) 1) ws ∷ count_labels is_bare ws ∷ []

abbrev pub numbers_of : List Labelled → List ℕ
numbers_of ws = slice_index (numbers_in ws) 0 ∷ slice_index (numbers_in ws) 1 ∷ []
