-- The elements that a list's members give one after another: where the k-th comes from.
use Rattle.std.proofs.Common.{◌≡◌, ℕ, zero, suc, ◌+◌, ◌<◌, List, [], ◌∷◌, ◌++◌, length, take, drop, refl, ap, sym, subst, ◌∙◌, arith, Some, length-append, append_assoc, ◌⊎◌, inl, inr}
use Rattle.std.specs.List.{slice_get, flat_map}
use Rattle.std.proofs.lemmas.List.{take_at, drop_at}

module _ {X A : Type 0} (f : X → List A) where
  -- more of them come before a later place
  pub rises : (h : List X) (t s : ℕ) (x : X) (a : A) → t < s → slice_get h t ≡ Some x → f x ≡ a ∷ [] → length (flat_map f (take t h)) < length (flat_map f (take s h))
  rises [] t s x a l e k = absurd cc
  rises (y ∷ h) t zero x a l e k = absurd (omega arith)
  rises (y ∷ h) zero (suc s) x a l e k =
      let same : y ≡ x = cc in
      omega (arith, length-append (f y) (flat_map f (take s h)), ap length (ap f same ∙ k))
  rises (y ∷ h) (suc t) (suc s) x a l e k =
      let below : length (flat_map f (take t h)) < length (flat_map f (take s h)) = rises h t s x a (omega arith) e k in
      omega (arith, length-append (f y) (flat_map f (take t h)), length-append (f y) (flat_map f (take s h)))

  -- what is given before a place, there, and after it
  pub parted : (h : List X) (t : ℕ) (x : X) → slice_get h t ≡ Some x → flat_map f h ≡ flat_map f (take t h) ++ (f x ++ flat_map f (drop (suc t) h))
  parted [] t x e = absurd cc
  parted (y ∷ h) zero x e = let same : y ≡ x = cc in ap (λ z. f z ++ flat_map f h) same
  parted (y ∷ h) (suc t) x e = ap (λ z. f y ++ z) (parted h t x e) ∙ sym (append_assoc (f y) (flat_map f (take t h)) (f x ++ flat_map f (drop (suc t) h)))

  -- the place that gives the k-th
  pub record IsGivenAt (h : List X) (k : ℕ) : Type 0 where
    pub place : ℕ
    pub within : place < length h
    pub from : X
    pub item : A
    pub stands : slice_get h place ≡ Some from
    pub gives : f from ≡ item ∷ []
    pub before : length (flat_map f (take place h)) ≡ k

  later : (y : X) (h : List X) (k : ℕ) → IsGivenAt h k → IsGivenAt (y ∷ h) (length (f y) + k)
  later y h k g = record {
    place = suc g.place;
    within = omega (arith, g.within);
    from = g.from;
    item = g.item;
    stands = g.stands;
    gives = g.gives;
    before = length-append (f y) (flat_map f (take g.place h)) ∙ ap (λ z. length (f y) + z) g.before;
  }

  -- where each member gives at most one, each is given somewhere
  pub given_at : ((x : X) → (f x ≡ []) ⊎ ((a : A) × (f x ≡ a ∷ []))) → (h : List X) (k : ℕ) → k < length (flat_map f h) → IsGivenAt h k
  given_at one [] k l = absurd (omega arith)
  given_at one (y ∷ h) k l = elim (one y) [
    | inl none ↦
        let much : length (f y) ≡ 0 = ap length none in
        let g : IsGivenAt h k = given_at one h k (omega (arith, length-append (f y) (flat_map f h))) in
        subst (IsGivenAt (y ∷ h)) (let e : length (f y) + k ≡ k = omega (arith, much) in e) (later y h k g)
    | inr some ↦ first y h k some.0 some.1 l (given_at one h)
  ] where
    first : (y : X) (h : List X) (k : ℕ) (a : A) → f y ≡ a ∷ [] → k < length (f y ++ flat_map f h) → ((j : ℕ) → j < length (flat_map f h) → IsGivenAt h j) → IsGivenAt (y ∷ h) k
    first y h zero a e l rest = record { place = 0; within = omega arith; from = y; item = a; stands = refl; gives = e; before = refl }
    first y h (suc k) a e l rest =
        let much : length (f y) ≡ 1 = ap length e in
        let g : IsGivenAt h k = rest k (omega (arith, length-append (f y) (flat_map f h))) in
        subst (IsGivenAt (y ∷ h)) (let e : length (f y) + k ≡ suc k = omega (arith, much) in e) (later y h k g)

module _ {A : Type 0} where
  -- two lists of which the first parts are as long as one another
  pub same_rest : (xs ys zs ws : List A) → length xs ≡ length zs → xs ++ ys ≡ zs ++ ws → ys ≡ ws
  same_rest xs ys zs ws l e = sym (drop_at xs ys (length xs) refl) ∙ ap (drop (length xs)) e ∙ drop_at zs ws (length xs) (sym l)

  pub same_front : (xs ys zs ws : List A) → length xs ≡ length zs → xs ++ ys ≡ zs ++ ws → xs ≡ zs
  same_front xs ys zs ws l e = sym (take_at xs ys (length xs) refl) ∙ ap (take (length xs)) e ∙ take_at zs ws (length xs) (sym l)

-- what stands in a front stands in the whole
pub get_of_front : {X : Type 0} (h : List X) (r i : ℕ) → i < r → slice_get (take r h) i ≡ slice_get h i
get_of_front h zero i l = absurd (omega arith)
get_of_front [] (suc r) i l = refl
get_of_front (x ∷ h) (suc r) zero l = refl
get_of_front (x ∷ h) (suc r) (suc i) l = get_of_front h r i (omega arith)
