-- What the change of one item does to a whole list, and what a loop over all items leaves.
use Rattle.std.proofs.Common.{◌≡◌, ℕ, zero, suc, ◌+◌, ◌<◌, ◌≤◌, List, [], ◌∷◌, ◌++◌, length, get_or, set, take, drop, All, arith, add-one, ap, subst, sym}
use Rattle.std.proofs.lemmas.List.Elements.{All-cons, All-head, All-nil, All-tail}
use Rattle.std.specs.List.{AllZip}
use Rattle.rcu_part_group.proofs.GroupLists.{written}

module _ {X : Type 0} where
  -- what is said of each of one list is said of each of the other
  pub all_along : (P : X → Type 0) (Q : X → X → Type 0) → ((x y : X) → Q x y → P x → P y) → (xs ys : List X) → AllZip Q xs ys → All P xs → All P ys
  all_along P Q f [] [] z h = All-nil P
  all_along P Q f [] (y ∷ ys) z h = absurd z
  all_along P Q f (x ∷ xs) [] z h = absurd z
  all_along P Q f (x ∷ xs) (y ∷ ys) z h = All-cons P y ys (f x y z.0 (All-head P x xs h)) (all_along P Q f xs ys z.1 (All-tail P x xs h))

  -- The first n items were changed, and the others are as they were.
  abbrev pub FirstsOf : (X → X → Type 0) → ℕ → List X → List X → Type 0
  FirstsOf Q zero xs ys = ys ≡ xs
  FirstsOf Q (suc n) [] ys = ⊥
  FirstsOf Q (suc n) (x ∷ xs) [] = ⊥
  FirstsOf Q (suc n) (x ∷ xs) (y ∷ ys) = Q x y × FirstsOf Q n xs ys

  -- one more is changed
  pub firsts_next : (Q : X → X → Type 0) (n : ℕ) (xs ys : List X) (x y : X) → n < length ys → Q (get_or ys n x) y → FirstsOf Q n xs ys → FirstsOf Q (suc n) xs (set ys n y)
  firsts_next Q zero [] [] x y there q e = absurd (omega (arith, there))
  firsts_next Q zero (w ∷ xs) [] x y there q e = absurd (omega (arith, there))
  firsts_next Q zero [] (z ∷ ys) x y there q e = absurd (let l = ap (λ (l : List X). length l) e in omega (arith, l))
  firsts_next Q zero (w ∷ xs) (z ∷ ys) x y there q e = (subst (λ v. Q v y) (ap (λ (l : List X). get_or l 0 x) e) q, ap (λ (l : List X). drop 1 l) e)
  firsts_next Q (suc n) [] ys x y there q e = absurd e
  firsts_next Q (suc n) (w ∷ xs) [] x y there q e = absurd e
  firsts_next Q (suc n) (w ∷ xs) (z ∷ ys) x y there q e = (e.0, firsts_next Q n xs ys x y (omega (arith, there)) q e.1)

  pub firsts_more : (Q : X → X → Type 0) (n : ℕ) (xs ys : List X) (x y : X) → n < length ys → Q (get_or ys n x) y → FirstsOf Q n xs ys → FirstsOf Q (n + 1) xs (set ys n y)
  firsts_more Q n xs ys x y there q e = subst (λ m. FirstsOf Q m xs (set ys n y)) (sym (add-one n)) (firsts_next Q n xs ys x y there q e)

  -- all are changed
  pub firsts_all : (Q : X → X → Type 0) (n : ℕ) (xs ys : List X) → length ys ≤ n → FirstsOf Q n xs ys → AllZip Q xs ys
  firsts_all Q zero [] [] low e = tt
  firsts_all Q zero (w ∷ xs) [] low e = absurd (let l = ap (λ (l : List X). length l) e in omega (arith, l))
  firsts_all Q zero xs (z ∷ ys) low e = absurd (omega (arith, low))
  firsts_all Q (suc n) [] ys low e = absurd e
  firsts_all Q (suc n) (w ∷ xs) [] low e = absurd e
  firsts_all Q (suc n) (w ∷ xs) (z ∷ ys) low e = (e.0, firsts_all Q n xs ys (omega (arith, low)) e.1)

  -- What a loop over all items of a `Vec` leaves in it.
  pub left_by : (P : List X → Type 0) (xs ys : List X) (n : ℕ) → length xs ≡ length ys → n ≡ length ys → P xs → P (take n (xs ++ drop (length xs) ys))
  left_by P xs ys n same many p = subst P (sym (written xs ys n same many)) p
