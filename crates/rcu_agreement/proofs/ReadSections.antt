-- Between the acceptance of a callback and its run every section that was open has ended.
use Rattle.std.proofs.Common.{◌≡◌, ℕ, zero, suc, ◌<◌, ◌≤◌, List, [], ◌∷◌, length, take, refl, ap, sym, subst, ◌∙◌, arith, Some, inl, inr}
use Rattle.std.specs.List.{slice_get}
use Rattle.std.proofs.lemmas.Bool.{cases_lt}
use Rattle.rcu_world_law.specs.declared.marks.Mark.{Mark}
use Rattle.rcu_world_law.specs.declared.marks.Mark.TheVariants.{Accepted, Reported, Ran}
use Rattle.rcu_world_law.specs.Law.{accepted, ran, IsAccepted, IsRan, IsLawful}
use Rattle.rcu_world_law.proofs.Law.{sound_whole}
use Rattle.rcu_agreement.specs.ReadSections.{Step, AcceptsAt, ReportsOutside, RunsAt, RunsBeforeReaders, WaitsForReaders, history_of}
use Rattle.rcu_agreement.specs.ReadSections.Step.{Marked, Begins, Ends}

-- the place in the history of what stands at place t
abbrev place_of : List Step → ℕ → ℕ
place_of steps t = length (history_of (take t steps))

-- a mark stands in the history behind those that stand before it
stands_there : (steps : List Step) (t : ℕ) (m : Mark) → slice_get steps t ≡ Some (Marked m) → slice_get (history_of steps) (place_of steps t) ≡ Some m
stands_there [] t m e = absurd cc
stands_there (x ∷ steps) zero m e = let f : x ≡ Marked m = cc in subst (λ (y : Step). slice_get (history_of (y ∷ steps)) 0 ≡ Some m) (sym f) refl
stands_there (Marked n ∷ steps) (suc t) m e = stands_there steps t m e
stands_there (Begins q s ∷ steps) (suc t) m e = stands_there steps t m e
stands_there (Ends q s ∷ steps) (suc t) m e = stands_there steps t m e

-- and the marks before it are those
taken_there : (steps : List Step) (t : ℕ) → take (place_of steps t) (history_of steps) ≡ history_of (take t steps)
taken_there [] zero = refl
taken_there [] (suc t) = refl
taken_there (x ∷ steps) zero = refl
taken_there (Marked n ∷ steps) (suc t) = ap (λ l. n ∷ l) (taken_there steps t)
taken_there (Begins q s ∷ steps) (suc t) = taken_there steps t
taken_there (Ends q s ∷ steps) (suc t) = taken_there steps t

-- where a mark of the history stands among the steps
comes_from : (steps : List Step) (i : ℕ) (m : Mark) → slice_get (history_of steps) i ≡ Some m → (t : ℕ) × (slice_get steps t ≡ Some (Marked m)) × (place_of steps t ≡ i)
comes_from [] i m e = absurd cc
comes_from (Marked n ∷ steps) zero m e = let f : n ≡ m = cc in (0, ap (λ y. Some (Marked y)) f, refl)
comes_from (Marked n ∷ steps) (suc i) m e = let r = comes_from steps i m e in (suc r.0, r.1, ap suc r.2)
comes_from (Begins q s ∷ steps) i m e = let r = comes_from steps i m e in (suc r.0, r.1, r.2)
comes_from (Ends q s ∷ steps) i m e = let r = comes_from steps i m e in (suc r.0, r.1, r.2)

nowhere : (t : ℕ) → place_of [] t ≡ 0
nowhere zero = refl
nowhere (suc t) = refl

-- a later place is no earlier one in the history
in_order : (steps : List Step) (t u : ℕ) → t ≤ u → place_of steps t ≤ place_of steps u
in_order [] t u l = omega (arith, nowhere t, nowhere u)
in_order (x ∷ steps) zero u l = omega arith
in_order (x ∷ steps) (suc t) zero l = absurd (omega arith)
in_order (Marked n ∷ steps) (suc t) (suc u) l = let w : place_of steps t ≤ place_of steps u = in_order steps t u (omega arith) in omega arith
in_order (Begins q s ∷ steps) (suc t) (suc u) l = in_order steps t u (omega arith)
in_order (Ends q s ∷ steps) (suc t) (suc u) l = in_order steps t u (omega arith)

came_before : (steps : List Step) (t u : ℕ) → place_of steps t < place_of steps u → t < u
came_before steps t u l = elim (cases_lt t u) [ inl w ↦ w | inr w ↦ absurd (omega (arith, in_order steps u t w)) ]

module _ (n : ℕ) (steps : List Step) (lawful : IsLawful n (history_of steps)) (outside : ReportsOutside steps) where
  -- a report of each processor stands between an acceptance and its run
  reported : (p k t u q : ℕ) → AcceptsAt steps p k t → RunsAt steps p k u → q < n → (i : ℕ) × (t < i) × (i < u) × (slice_get steps i ≡ Some (Marked (Reported q)))
  reported p k t u q a r l =
      let start : IsAccepted (history_of steps) p k (place_of steps t) =
      record { key = a.key; stands = stands_there steps t (Accepted p a.key) a.stands; before = ap (λ x. length (accepted p x)) (taken_there steps t) ∙ a.before } in
      let end : IsRan (history_of steps) p k (place_of steps u) =
      record { key = r.key; stands = stands_there steps u (Ran p r.key) r.stands; before = ap (λ x. length (ran p x)) (taken_there steps u) ∙ r.before } in
      let c = ((sound_whole n (history_of steps) lawful).graced p k (place_of steps t) (place_of steps u) start end).each q l in
      let i = comes_from steps c.0 (Reported q) c.3 in
      (i.0, came_before steps t i.0 (omega (arith, c.1, i.2)), came_before steps i.0 u (omega (arith, c.2, i.2)), i.1)

  -- the place of an acceptance is no place where a section ends
  other_place : (t e p key q s : ℕ) → slice_get steps t ≡ Some (Marked (Accepted p key)) → slice_get steps e ≡ Some (Ends q s) → t ≡ e → ⊥
  other_place t e p key q s a b same = let f : slice_get steps t ≡ slice_get steps e = ap (slice_get steps) same in cc

  pub waits : WaitsForReaders n steps
  waits p k t u q s b a r l o =
      let i = reported p k t u q a r l in
      let e = outside q s b i.0 o.begins i.3 (omega (arith, o.before, i.1)) in
      record {
        place = e.place;
        after = elim (cases_lt t e.place) [
          | inl w ↦ w
          | inr w ↦ elim (cases_lt e.place t) [
            | inl v ↦ absurd (o.lasts (record { place = e.place; after = e.after; before = v; stands = e.stands }))
            | inr v ↦ absurd (other_place t e.place p a.key q s a.stands e.stands (omega (arith, w, v)))
          ]
        ];
        before = omega (arith, e.before, i.2);
        stands = e.stands;
      }

  pub runs_before : RunsBeforeReaders n steps
  runs_before p k t u q s b a r l o =
      let i = reported p k t u q a r l in
      elim (cases_lt b i.0) [
        | inl w ↦ let e = outside q s b i.0 o.begins i.3 w in absurd (o.lasts (record { place = e.place; after = e.after; before = omega (arith, e.before, i.2); stands = e.stands }))
        | inr w ↦ omega (arith, w, i.1)
      ]
