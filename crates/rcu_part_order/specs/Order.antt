-- One order of the runs of a processor and its hand, from the claims of both (docs/specification/definitions.md, "Turn law" and "Places").
use Rattle.std.specs.Prelude.{◌≡◌, ℕ, ◌+◌, ◌==◌, nat_lt, if◌then◌else◌, List, [], ◌∷◌, ◌++◌}
use Rattle.rcu_part_order.specs.Places.{Accepted, Numbered, with_number, numbered, Move, claimed_of, put_of, moved}

abbrev pub is_number : ℕ → Numbered → ℕ
is_number j x = if x.number == j then 1 else 0

-- how often number j is in a list
abbrev pub times : ℕ → List Numbered → ℕ
times j [] = 0
times j (x ∷ xs) = is_number j x + times j xs

-- 1 where j is at least k and below m
abbrev pub between : ℕ → ℕ → ℕ → ℕ
between k m j = if nat_lt j m then (if nat_lt j k then 0 else 1) else 0

-- Of the numbers from k on: the processor claimed `own`, of what it put on its lane the hand claimed `hands` and then comes what is on its way
-- (`back`), and the processor holds the rest. Each number from k on and below m was claimed once, and no other.
pub record Remaining (m k : ℕ) (accepted : List Accepted) (own hands back held : List Numbered) : Type 0 where
  pub moves : List Move
  pub all : numbered k accepted ≡ moved moves ++ held
  pub own_is : claimed_of moves ≡ own
  pub put_is : put_of moves ≡ hands ++ back
  pub once : (j : ℕ) → times j own + times j hands ≡ between k m j

-- The next number k is the first of the processor's claims, or else the first of its hand's.
pub data Next (m k : ℕ) (accepted : List Accepted) (own hands back held : List Numbered) : Type 0 where
  first_own : (x : Accepted) (accepted' : List Accepted) (own' : List Numbered) → accepted ≡ x ∷ accepted' → own ≡ with_number k x ∷ own' → Remaining m (k + 1) accepted' own' hands back held
      → Next m k accepted own hands back held
  first_hands : (x : Accepted) (accepted' : List Accepted) (hands' : List Numbered) → accepted ≡ x ∷ accepted' → hands ≡ with_number k x ∷ hands' → times k own ≡ 0
      → Remaining m (k + 1) accepted' own hands' back held → Next m k accepted own hands back held
