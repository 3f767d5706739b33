-- A list in order: done callbacks, numbered ones, bare ones
use Rattle.std.proofs.Common.{◌≡◌, ℕ, ◌+◌, ◌<◌, ◌≤◌, ◌⊎◌, Bool, true, false, cond, ◌||◌, not, List, [], ◌∷◌, inl, inr, refl, ap, sym, ◌∙◌, subst, arith}
use Rattle.std.specs.Prelude.{◌==◌, nat_lt, nat_le, if◌then◌else◌}
use Rattle.std.proofs.lemmas.Bool.{cases_Bool, cases_eq, eq-eqb, ne_eqb, lt-ltb, le-ltb, leb-true, ltb-true, ltb-false}
use Rattle.std.proofs.lemmas.List.Sums.{sum_by-cons}
use Rattle.rcu_world_law.specs.LabelledLists as law
use Rattle.rcu_lists.specs.Labels.{Label, Done, Numbered, Bare, Labelled, is_done, with_number, numbers_in, in_order, may_follow, count}
use Rattle.rcu_world_processor.specs.Waits.{label, waits}
use Rattle.rcu_world_processor.proofs.Below.{below, below_cons, with_twice, with_two, none_below, some_below, one_below}

pub both : (x y : Bool) → (if x then y else false) ≡ true → (x ≡ true) × (y ≡ true)
both true y h = (refl, h)
both false y h = absurd cc

module _ {J : Type 0} (key_of : J → ℕ) where
  after_bare : (l : Label) (xs : List (Labelled J)) → (if may_follow Bare l then in_order l xs else false) ≡ true → (l ≡ Bare) × (in_order Bare xs ≡ true)
  after_bare Done xs h = absurd cc
  after_bare (Numbered n) xs h = absurd cc
  after_bare Bare xs h = (refl, h)

  after_number : (m : ℕ) (l : Label) (xs : List (Labelled J)) → (if may_follow (Numbered m) l then in_order l xs else false) ≡ true
      → ((n : ℕ) × (l ≡ Numbered n) × (m ≤ n) × (in_order (Numbered n) xs ≡ true)) ⊎ ((l ≡ Bare) × (in_order Bare xs ≡ true))
  after_number m Done xs h = absurd cc
  after_number m (Numbered n) xs h = let p = both (nat_le m n) (in_order (Numbered n) xs) h in inl (n, refl, leb-true m n p.0, p.1)
  after_number m Bare xs h = inr (refl, h)

  -- bare ones to the end
  bare_numbers : (xs : List (Labelled J)) → in_order Bare xs ≡ true → numbers_in xs ≡ []
  bare_numbers [] h = refl
  bare_numbers (x ∷ xs) h = let b = after_bare x.label xs h in rw b.0 (bare_numbers xs b.1)

  bare_other : (s m : ℕ) (xs : List (Labelled J)) → in_order Bare xs ≡ true → law.has_other s m (waits key_of xs) ≡ false
  bare_other s m [] h = refl
  bare_other s m (x ∷ xs) h = let b = after_bare x.label xs h in rw b.0 (bare_other s m xs b.1)

  pub bare_done : (xs : List (Labelled J)) → in_order Bare xs ≡ true → count is_done xs ≡ 0
  bare_done [] h = refl
  bare_done (x ∷ xs) h = let b = after_bare x.label xs h in sum_by-cons (λ (y : Labelled J). cond (is_done y.label) 1 0) x xs ∙ rw b.0 (ap (λ n. 0 + n) (bare_done xs b.1))

  -- numbers from m on to the end
  pub number_done : (m : ℕ) (xs : List (Labelled J)) → in_order (Numbered m) xs ≡ true → count is_done xs ≡ 0
  number_done m [] h = refl
  number_done m (x ∷ xs) h = sum_by-cons (λ (y : Labelled J). cond (is_done y.label) 1 0) x xs ∙ elim (after_number m x.label xs h) [
    | inl a ↦ rw a.1 (ap (λ n. 0 + n) (number_done a.0 xs a.3))
    | inr b ↦ rw b.0 (ap (λ n. 0 + n) (bare_done xs b.1))
  ]

  number_below : (s m : ℕ) (xs : List (Labelled J)) → s ≤ m → in_order (Numbered m) xs ≡ true → below s (numbers_in xs) ≡ 0
  unfolding below
  number_below s m [] l h = refl
  number_below s m (x ∷ xs) l h = elim (after_number m x.label xs h) [
    | inl a ↦ rw a.1 (none_below s a.0 (numbers_in xs) (let le = a.2 in omega arith) (number_below s a.0 xs (let le = a.2 in omega arith) a.3))
    | inr b ↦ rw b.0 (rw (bare_numbers xs b.1) refl)
  ]

  number_other : (s m k : ℕ) (xs : List (Labelled J)) → s ≤ m → in_order (Numbered m) xs ≡ true → law.has_other s k (waits key_of xs) ≡ false
  number_other s m k [] l h = refl
  number_other s m k (x ∷ xs) l h = elim (after_number m x.label xs h) [
    | inl a ↦ rw a.1 (rw (le-ltb a.0 s (let le = a.2 in omega arith)) (number_other s a.0 k xs (let le = a.2 in omega arith) a.3))
    | inr b ↦ rw b.0 (bare_other s k xs b.1)
  ]

  -- some number below s follows m and differs from it
  other_step : (s m n : ℕ) (r : Bool) (ns : List ℕ) → m < s → m ≤ n → (n ≡ m → r ≡ nat_lt 1 (below s (with_number (Numbered m) ns))) → (s ≤ n → (r ≡ false) × (below s ns ≡ 0))
      → ((if nat_lt n s then not (n == m) else false) || r) ≡ nat_lt 1 (below s (with_number (Numbered m) (with_number (Numbered n) ns)))
  unfolding below
  other_step s m n r ns l le same above = elim (cases_eq n m) [
    | inl q ↦ rw (q, lt-ltb m s l, eq-eqb m m refl, with_twice m ns) (same q)
    | inr d ↦ rw (with_two m n ns (λ e. d (sym e))) (elim (cases_Bool (nat_lt n s)) [
      | inl e ↦ rw (e, ne_eqb n m d) (let some = some_below s n ns (ltb-true n s e) in let c = below_cons s m (with_number (Numbered n) ns) in let f = lt-ltb m s l in
          sym (lt-ltb 1 (below s (m ∷ with_number (Numbered n) ns)) (rw c (rw f (omega arith)))))
      | inr e ↦ let ge : s ≤ n = ltb-false n s e in let a = above ge in rw e (a.0 ∙ sym (rw (below_cons s m (with_number (Numbered n) ns), lt-ltb m s l, none_below s n ns ge a.1) refl))
    ])
  ]

  other_as : (s m : ℕ) (xs : List (Labelled J)) → m < s → in_order (Numbered m) xs ≡ true → law.has_other s m (waits key_of xs) ≡ nat_lt 1 (below s (with_number (Numbered m) (numbers_in xs)))
  other_as s m [] l h = sym (one_below s m l)
  other_as s m (x ∷ xs) l h = elim (after_number m x.label xs h) [
    | inl a ↦ rw a.1 (other_step s m a.0 (law.has_other s m (waits key_of xs)) (numbers_in xs) l a.2
        (λ e. other_as s m xs l (subst (λ n. in_order (Numbered n) xs ≡ true) e a.3)) (λ ge. (number_other s a.0 m xs ge a.3, number_below s a.0 xs ge a.3)))
    | inr b ↦ rw b.0 (bare_other s m xs b.1 ∙ sym (rw (bare_numbers xs b.1) (one_below s m l)))
  ]

  two_step : (s : ℕ) (l : Label) (xs : List (Labelled J)) → in_order l xs ≡ true → law.has_two s (waits key_of xs) ≡ nat_lt 1 (below s (numbers_in xs))
      → (if law.is_below s (label l) then law.has_other s (law.number_of (label l)) (waits key_of xs) else law.has_two s (waits key_of xs)) ≡ nat_lt 1 (below s (with_number l (numbers_in xs)))
  two_step s Done xs o h = h
  two_step s (Numbered n) xs o h = elim (cases_Bool (nat_lt n s)) [
    | inl e ↦ rw e (other_as s n xs (ltb-true n s e) o)
    | inr e ↦ let ge : s ≤ n = ltb-false n s e in let z = number_below s n xs ge o in rw e (h ∙ ap (nat_lt 1) (z ∙ sym (none_below s n (numbers_in xs) ge z)))
  ]
  two_step s Bare xs o h = h

  pub two_as : (s : ℕ) (before : Label) (xs : List (Labelled J)) → in_order before xs ≡ true → law.has_two s (waits key_of xs) ≡ nat_lt 1 (below s (numbers_in xs))
  unfolding below
  two_as s before [] h = refl
  two_as s before (x ∷ xs) h = let p = both (may_follow before x.label) (in_order x.label xs) h in two_step s x.label xs p.1 (two_as s x.label xs p.1)
