-- The values of places that are joined.
use Rattle.std.proofs.Common.{◌≡◌, ◌+◌, ◌-◌, length-drop, List, [], ◌∷◌, ◌++◌, length, Option, Some, None, refl, ap, ◌∙◌, sym, length-append, MatchOption, ◌≤◌, subst, arith, Bool, true, false, not, IsTrue, ◌↔◌, ◌<◌, take, drop, get_or, suc, ltb, ℕ}
use Rattle.std.proofs.Math.Seq.{drop-cons, take-add}
use Rattle.std.proofs.lemmas.Bool.{ltb-true, ltb-false}
use Rattle.std.proofs.lemmas.List.{drop-drop, drop_all, take_all}
use Rattle.rcu_lists.specs.Release.{is_any}
use Rattle.rcu_lists.specs.Filled.{filled, AreFilled}

module _ {T : Type 0} where
  pub filled-append : (xs ys : List (Option T)) → filled (xs ++ ys) ≡ filled xs ++ filled ys
  filled-append [] ys = refl
  filled-append (None ∷ xs) ys = filled-append xs ys
  filled-append (Some x ∷ xs) ys = ap (λ l. x ∷ l) (filled-append xs ys)

  pub filled-snoc : (xs : List (Option T)) (x : T) → filled (xs ++ Some x ∷ []) ≡ filled xs ++ x ∷ []
  filled-snoc xs x = filled-append xs (Some x ∷ [])

  pub still-filled : (xs : List (Option T)) (x : T) → AreFilled xs → AreFilled (xs ++ Some x ∷ [])
  still-filled xs x h = ap length (filled-snoc xs x) ∙ length-append (filled xs) (x ∷ []) ∙ ap (λ n. n + 1) h ∙ sym (length-append xs (Some x ∷ []))

  pub filled-le : (xs : List (Option T)) → length (filled xs) ≤ length xs
  filled-le [] = omega arith
  filled-le (None ∷ xs) = let h = filled-le xs in omega arith
  filled-le (Some x ∷ xs) = let h = filled-le xs in omega arith

  -- a place moved behind others: the first of filled ones
  pub moves-place : (place : Option T) (rest xs : List (Option T)) → AreFilled (place ∷ rest) → AreFilled xs → AreFilled (xs ++ place ∷ []) × (filled (xs ++ place ∷ []) ≡ filled xs ++ take 1 (filled (place ∷ rest)))
  moves-place None rest xs h f = let le = filled-le rest in absurd (omega (arith, h))
  moves-place (Some x) rest xs h f = (still-filled xs x f, filled-snoc xs x)

  pub rest-filled : (place : Option T) (rest : List (Option T)) → AreFilled (place ∷ rest) → filled rest ≡ drop 1 (filled (place ∷ rest))
  rest-filled None rest h = let le = filled-le rest in absurd (omega (arith, h))
  rest-filled (Some x) rest h = refl

  pub both-filled : (xs ys : List (Option T)) → AreFilled xs → AreFilled ys → AreFilled (xs ++ ys)
  both-filled xs ys h k = ap length (filled-append xs ys) ∙ length-append (filled xs) (filled ys) ∙ ap (λ n. n + length (filled ys)) h ∙ ap (λ n. length xs + n) k ∙ sym (length-append xs ys)

  pub no-snoc : (xs : List T) (x : T) → xs ++ x ∷ [] ≡ [] → ⊥
  no-snoc [] x e = cc
  no-snoc (y ∷ xs) x e = cc

  pub no-append : (xs ys : List T) → 0 < length ys → xs ++ ys ≡ [] → ⊥
  no-append [] ys h e = let n = ap length e in omega arith
  no-append (x ∷ xs) ys h e = cc

  -- the first place of filled ones holds the first value
  pub first-filled : (place : Option T) (rest : List (Option T)) → AreFilled (place ∷ rest) → AreFilled rest × MatchOption place ⊥ (λ x. filled (place ∷ rest) ≡ x ∷ filled rest)
  first-filled None rest h = let le = filled-le rest in absurd (omega arith)
  first-filled (Some x) rest h = (omega arith, refl)

  at_place : (A : Type 0) (place : Option T) (rest : List (Option T)) (old new : List T) → MatchOption place ⊥ (λ x. filled (place ∷ rest) ≡ x ∷ filled rest) → old ≡ filled (place ∷ rest) → new ≡ filled rest → MatchOption place A (λ x. old ≡ x ∷ new)
  at_place A None rest old new h e n = absurd h
  at_place A (Some x) rest old new h e n = e ∙ ap (λ l. x ∷ l) (sym n)

  pub takes-first : (A : Type 0) (r place : Option T) (rest : List (Option T)) (old new : List T) → AreFilled (place ∷ rest) → r ≡ place → old ≡ filled (place ∷ rest) → new ≡ filled rest → MatchOption r A (λ x. old ≡ x ∷ new)
  takes-first A r place rest old new h e o n = let P : Option T → Type 0 = λ q. MatchOption q A (λ x. old ≡ x ∷ new) in subst P (sym e) (at_place A place rest old new (first-filled place rest h).1 o n)

-- the first place that wasn't taken
module _ {T : Type 0} where
  has-first : (place : Option T) (rest places : List (Option T)) → places ≡ place ∷ rest → MatchOption place ⊥ (λ x. filled (place ∷ rest) ≡ x ∷ filled rest)
      → MatchOption place ⊥ (λ x. (ys : List T) × (filled places ≡ x ∷ ys))
  has-first None rest places e h = absurd h
  has-first (Some x) rest places e h = (filled rest, ap filled e ∙ h)

  pub first-at : (i : ℕ) (places : List (Option T)) (place : Option T) → i < length places → place ≡ get_or places i place → AreFilled (drop i places)
      → MatchOption place ⊥ (λ x. (ys : List T) × (filled (drop i places) ≡ x ∷ ys))
  first-at i places place lt e h =
      let f : drop i places ≡ place ∷ drop (suc i) places = drop-cons places i place lt ∙ ap (λ x. x ∷ drop (suc i) places) (sym e) in
      has-first place (drop (suc i) places) (drop i places) f (first-filled place (drop (suc i) places) (subst AreFilled f h)).1

  -- as a lookup of it tells
  pub first-looked : (i : ℕ) (places seen : List (Option T)) (place : Option T) → seen ≡ places → true ≡ ltb i (length seen) → place ≡ get_or seen i place → AreFilled (drop i places)
      → MatchOption place ⊥ (λ x. (ys : List T) × (filled (drop i places) ≡ x ∷ ys))
  first-looked i places seen place e lt at full =
      first-at i places place (ltb-true i (length places) (ap (λ (l : List (Option T)). ltb i (length l)) (sym e) ∙ sym lt)) (at ∙ ap (λ l. get_or l i place) e) full

  -- the places from one on, as a slice tells
  pub filled-rest : (i : ℕ) (places seen : List (Option T)) → seen ≡ places → filled (take (length seen - i) (drop i seen)) ≡ filled (drop i places)
  filled-rest i places seen e = rw (take_all (length seen - i) (drop i seen) (omega (arith, length-drop i seen))) (ap (λ l. filled (drop i l)) e)

  pub none-looked : (i : ℕ) (places seen : List (Option T)) → seen ≡ places → false ≡ ltb i (length seen) → filled (drop i places) ≡ []
  none-looked i places seen e h =
      let le = ltb-false i (length places) (ap (λ (l : List (Option T)). ltb i (length l)) (sym e) ∙ sym h) in ap filled (drop_all i places le)

pub marks : (r : Bool) (P : Type 0) → (IsTrue r ↔ P) → (P → not r ≡ false) × (not r ≡ false → P)
marks true P h = ((λ _. refl), λ _. h.0 refl)
marks false P h = ((λ p. absurd (let e = h.1 p in cc)), λ (e : true ≡ false). absurd cc)

-- moving the first of the rest
module _ {T : Type 0} where
  pub moves-one : (i : ℕ) (xs : List T) (x : T) (rest : List T) → drop i xs ≡ x ∷ rest → (take (i + 1) xs ≡ take i xs ++ x ∷ []) × (drop (i + 1) xs ≡ rest)
  moves-one i xs x rest e = (take-add i 1 xs ∙ ap (λ z. take i xs ++ take 1 z) e, sym (drop-drop 1 i xs) ∙ ap (drop 1) e)

  pub any-of : (r : Bool) (xs : List T) → (IsTrue r ↔ (xs ≡ [])) → not r ≡ is_any xs
  any-of true xs h = sym (ap is_any (h.0 refl))
  any-of false [] h = absurd (let e = h.1 refl in cc)
  any-of false (x ∷ xs) h = refl

  pub any-long : (xs : List T) → 0 < length xs → is_any xs ≡ true
  any-long [] h = absurd (omega arith)
  any-long (x ∷ xs) h = refl

  pub any-none : (xs : List T) → length xs ≡ 0 → is_any xs ≡ false
  any-none [] h = refl
  any-none (x ∷ xs) h = absurd (omega arith)

  pub take_none : (n : ℕ) (xs : List T) → n ≡ 0 → take n xs ≡ []
  take_none n xs e = rw e refl

  -- what is left of a single one
  pub none-after : (r : Option T) (old mid : List T) → length old ≡ 1 → MatchOption r ((old ≡ []) × (mid ≡ [])) (λ x. old ≡ x ∷ mid) → mid ≡ []
  none-after None old mid n h = h.1
  none-after (Some x) old [] n h = refl
  none-after (Some x) old (y ∷ mid) n h = absurd (let m = ap length h in omega arith)

  pub single-taken : (P : Type 0) (r : Option T) (old mid new : List T) → length old ≡ 1 → MatchOption r ((old ≡ []) × (mid ≡ [])) (λ x. old ≡ x ∷ mid) → new ≡ mid → MatchOption r P (λ x. (old ≡ x ∷ []) × (new ≡ []))
  single-taken P None old mid new n h e = absurd (let m = ap length h.0 in omega arith)
  single-taken P (Some x) old mid new n h e = let none = none-after (Some x) old mid n h in (h ∙ ap (λ l. x ∷ l) none, e ∙ none)
