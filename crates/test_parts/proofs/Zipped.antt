-- What is kept of each of a list.
use Rattle.std.proofs.Common.{List, [], ◌∷◌}
use Rattle.std.specs.List.{All, AllZip}
use Rattle.std.proofs.lemmas.List.Elements.{All-cons, All-head, All-nil, All-tail}

pub all_kept : {A : Type 0} (P : A → Type 0) (xs ys : List A) → AllZip (λ x y. P x → P y) xs ys → All P xs → All P ys
all_kept P [] [] z h = All-nil P
all_kept P [] (y ∷ ys) z h = absurd z
all_kept P (x ∷ xs) [] z h = absurd z
all_kept P (x ∷ xs) (y ∷ ys) z h = All-cons P y ys (z.0 (All-head P x xs h)) (all_kept P xs ys z.1 (All-tail P x xs h))
