-- No callback is done before a grace period served it: how this is kept.
use Rattle.std.proofs.Common.{◌≡◌, ℕ, ◌≤◌, max, List, [], ◌∷◌, ◌++◌, get_or, inl, inr, refl, arith, subst, sym, Option, Some, None}
use Rattle.std.specs.Prelude.{All, IsTrue, nat_le, IfSome, MatchOption}
use Rattle.std.proofs.lemmas.Bool.{le-leb, leb-true, cases_Bool}
use Rattle.std.proofs.lemmas.List.Elements.{All-head, All-tail, All-nil, All-cons, All-append, All-map, All-weaker, All-push}
use Rattle.rcu_jobs.specs.declared.callback.Callback.{Callback}
use Rattle.rcu_numbers.specs.Numbers.{snap_of}
use Rattle.rcu_lists.specs.Labels.{Label, Done, Numbered, Bare, Labelled, marked, relabel, advanced, given, is_graced, IsGraced, MayAccelerate, has_two_below, after_advance, after_accelerate}

one-advance : (a s stamp : ℕ) (l : Label) → IsTrue (is_graced a l stamp) → IsTrue (is_graced (max a s) (advanced s l) stamp)
one-advance a s stamp Done h = le-leb (snap_of stamp) (max a s) (let k = leb-true (snap_of stamp) a h in omega arith)
one-advance a s stamp (Numbered n) h = elim (cases_Bool (nat_le n s)) [
  | inl e ↦ rw e (le-leb (snap_of stamp) (max a s) (let k = leb-true (snap_of stamp) n h in let le = leb-true n s e in omega arith))
  | inr e ↦ rw e h
]
one-advance a s stamp Bare h = refl

one-accelerate : (a s stamp : ℕ) (l : Label) → snap_of stamp ≤ s → IsTrue (is_graced a l stamp) → IsTrue (is_graced a (given s l) stamp)
one-accelerate a s stamp Done le h = h
one-accelerate a s stamp (Numbered n) le h = h
one-accelerate a s stamp Bare le h = le-leb (snap_of stamp) s le

module _ {J : Type 0} where
  abbrev graced_at : ℕ → Labelled J → Type 0
  graced_at a x = IsTrue (is_graced a x.label x.callback.stamp)

  pub graced-same : (a : ℕ) (xs ys : List (Labelled J)) → xs ≡ ys → IsGraced a ys → IsGraced a xs
  graced-same a xs ys e h = subst (IsGraced a) (sym e) h

  pub graced-advance : (a s t : ℕ) (xs : List (Labelled J)) → t ≡ max a s → IsGraced a xs → IsGraced t (after_advance s xs)
  graced-advance a s t xs e h = rw e (All-map (graced_at (max a s)) (relabel (advanced s)) xs
      (All-weaker (graced_at a) (λ x. graced_at (max a s) (relabel (advanced s) x)) (λ x k. one-advance a s x.callback.stamp x.label k) xs h))

  graced-given : (a s : ℕ) (xs : List (Labelled J)) → MayAccelerate s xs → IsGraced a xs → All (λ (x : Labelled J). graced_at a (relabel (given s) x)) xs
  graced-given a s xs may h k d lt = one-accelerate a s (get_or xs k d).callback.stamp (get_or xs k d).label (may k d lt).1 (h k d lt)

  pub graced-accelerate : (a s : ℕ) (xs : List (Labelled J)) → MayAccelerate s xs → IsGraced a xs → IsGraced a (after_accelerate s xs)
  graced-accelerate a s xs may h = elim (cases_Bool (has_two_below s xs)) [
    | inl e ↦ rw e h
    | inr e ↦ rw e (All-map (graced_at a) (relabel (given s)) xs (graced-given a s xs may h))
  ]

  graced-bare : (a : ℕ) (cs : List (Callback J)) → IsGraced a (marked Bare cs)
  graced-bare a [] = All-nil (graced_at a)
  graced-bare a (c ∷ cs) = All-cons (graced_at a) (record { label = Bare; callback = c }) (marked Bare cs) refl (graced-bare a cs)

  pub graced-push : (a : ℕ) (xs : List (Labelled J)) (c : Callback J) → IsGraced a xs → IsGraced a (xs ++ record { label = Bare; callback = c } ∷ [])
  graced-push a xs c h = All-push (graced_at a) xs (record { label = Bare; callback = c }) h refl

  pub graced-join : (a : ℕ) (xs : List (Labelled J)) (cs : List (Callback J)) → IsGraced a xs → IsGraced a (xs ++ marked Bare cs)
  graced-join a xs cs h = All-append (graced_at a) xs (marked Bare cs) h (graced-bare a cs)

  -- what is left once the front is taken
  pub graced-left : (a : ℕ) (cs : List (Callback J)) (xs : List (Labelled J)) → IsGraced a (marked Done cs ++ xs) → IsGraced a xs
  graced-left a [] xs h = h
  graced-left a (c ∷ cs) xs h = graced-left a cs xs (All-tail (graced_at a) (record { label = Done; callback = c }) (marked Done cs ++ xs) h)

  -- what is taken from the front
  pub graced-taken : (a : ℕ) (cs : List (Callback J)) (xs : List (Labelled J)) → IsGraced a (marked Done cs ++ xs) → All (λ (c : Callback J). snap_of c.stamp ≤ a) cs
  graced-taken a [] xs h = All-nil (λ (c : Callback J). snap_of c.stamp ≤ a)
  graced-taken a (c ∷ cs) xs h = All-cons (λ (c : Callback J). snap_of c.stamp ≤ a) c cs
      (leb-true (snap_of c.stamp) a (All-head (graced_at a) (record { label = Done; callback = c }) (marked Done cs ++ xs) h))
      (graced-taken a cs xs (All-tail (graced_at a) (record { label = Done; callback = c }) (marked Done cs ++ xs) h))

  pub first-graced : (A : Type 0) (a : ℕ) (r : Option (Callback J)) (xs ys : List (Labelled J)) → IsGraced a xs → MatchOption r A (λ c. xs ≡ marked Done (c ∷ []) ++ ys) → IfSome r (λ c. snap_of c.stamp ≤ a)
  first-graced A a None xs ys h e = tt
  first-graced A a (Some c) xs ys h e = leb-true (snap_of c.stamp) a (All-head (graced_at a) (record { label = Done; callback = c }) ys (subst (IsGraced a) e h))
