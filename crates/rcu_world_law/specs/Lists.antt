-- Small tests and parts of lists and options.
use Rattle.std.specs.Prelude.{ℕ, Bool, true, false, ◌&&◌, not, max, List, [], ◌∷◌, Option, Some, None}

abbrev pub is_none : {X : Type 0} → Option X → Bool
is_none None = true
is_none (Some c) = false

abbrev pub is_nil : {X : Type 0} → List X → Bool
is_nil [] = true
is_nil (x ∷ xs) = false

-- the first of some batches, the empty one where there is none
abbrev pub first_batch : {X : Type 0} → List (List X) → List X
first_batch [] = []
first_batch (x ∷ xs) = x

-- the list without its first one
abbrev pub tail : {X : Type 0} → List X → List X
tail [] = []
tail (x ∷ xs) = xs

abbrev pub all_of : List Bool → Bool
all_of [] = true
all_of (b ∷ bs) = b && all_of bs

-- the mask is 0
abbrev pub none_owes : List Bool → Bool
none_owes [] = true
none_owes (b ∷ bs) = not b && none_owes bs

-- the greater of the number needed so far and the one that is wanted
abbrev pub needed_with : ℕ → Option ℕ → ℕ
needed_with d None = d
needed_with d (Some s) = max d s

-- the value, 0 where there is none
abbrev pub value_or : Option ℕ → ℕ
value_or None = 0
value_or (Some s) = s
