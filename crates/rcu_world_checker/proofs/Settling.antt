-- Each mark of an ordered history settles just where the history is settled.
use Rattle.std.proofs.Common.{◌≡◌, ℕ, zero, suc, ◌+◌, ◌<◌, ◌≤◌, List, [], ◌∷◌, ◌++◌, length, take, drop, get_or, refl, ap, sym, ◌∙◌, arith, Some, length-append, append_assoc, ◌⊎◌, inl, inr}
use Rattle.std.specs.List.{slice_get, flat_map}
use Rattle.std.proofs.lemmas.Option.{slice_get_within}
use Rattle.std.proofs.lemmas.Bool.{cases_eq, cases_lt, eq-eqb, ne_eqb}
use Rattle.std.proofs.lemmas.List.{get_or-append-add, get_or_at, length-take, same_lists}
use Rattle.rcu_world_law.specs.declared.marks.Mark.{Mark}
use Rattle.rcu_world_law.specs.declared.marks.Mark.TheVariants.{Accepted, Reported, Ran, Opened, Passed, Shut, Back}
use Rattle.rcu_world_law.specs.Law.{accepted, back, ran, key_accepted, key_back, key_ran, IsOrdered, IsSettled}
use Rattle.rcu_world_law.proofs.Law.{own_accepted}
use Rattle.rcu_world_checker.specs.Returns.{IsAccounted, IsReturned, Settles, SettlesAs}
use Rattle.rcu_world_checker.proofs.Fitting.{is_accepted, one_accepted}
use Rattle.rcu_world_checker.proofs.Lists.{IsGivenAt, get_of_front, given_at, parted, same_rest}

-- what a mark gives to the list of what came back of p
one_back : (p : ℕ) (m : Mark) → (key_back p m ≡ []) ⊎ ((key : ℕ) × (key_back p m ≡ key ∷ []))
one_back p (Back q key) = elim (cases_eq q p) [ inl e ↦ inr (key, rw (eq-eqb q p e) refl) | inr d ↦ inl (rw (ne_eqb q p d) refl) ]
one_back p (Accepted q key) = inl refl
one_back p (Reported q) = inl refl
one_back p (Ran q key) = inl refl
one_back p (Opened b) = inl refl
one_back p (Passed b) = inl refl
one_back p (Shut q) = inl refl

own_back : (p key : ℕ) → key_back p (Back p key) ≡ key ∷ []
own_back p key = rw (eq-eqb p p refl) refl

is_back : (p key : ℕ) (m : Mark) → key_back p m ≡ key ∷ [] → m ≡ Back p key
is_back p key (Back q other) e = elim (cases_eq q p) [
  | inl s ↦ let o : other ∷ [] ≡ key ∷ [] = sym (own_back p other) ∙ ap (λ x. key_back p (Back x other)) (sym s) ∙ e in let k : other ≡ key = cc in cc
  | inr d ↦ let o : [] ≡ key ∷ [] = rw (ne_eqb q p d) at e in absurd cc
]
is_back p key (Accepted q other) e = absurd cc
is_back p key (Reported q) e = absurd cc
is_back p key (Ran q other) e = absurd cc
is_back p key (Opened b) e = absurd cc
is_back p key (Passed b) e = absurd cc
is_back p key (Shut q) e = absurd cc

module _ (h : List Mark) (p : ℕ) where
  -- what came back at a place stands behind what came back before
  back_parts : (u key : ℕ) → slice_get h u ≡ Some (Back p key) → back p h ≡ back p (take u h) ++ (key ∷ flat_map (key_back p) (drop (suc u) h))
  back_parts u key e = parted (key_back p) h u (Back p key) e ∙ ap (λ x. back p (take u h) ++ (x ++ flat_map (key_back p) (drop (suc u) h))) (own_back p key)

  accepted_parts : (t key : ℕ) → slice_get h t ≡ Some (Accepted p key) → accepted p h ≡ accepted p (take t h) ++ (key ∷ flat_map (key_accepted p) (drop (suc t) h))
  accepted_parts t key e = parted (key_accepted p) h t (Accepted p key) e ∙ ap (λ x. accepted p (take t h) ++ (x ++ flat_map (key_accepted p) (drop (suc t) h))) (own_accepted p key)

  -- where each mark settles, what p accepted behind what ran is what came back
  module _ (rest : List ℕ) (ordered : accepted p h ≡ ran p h ++ rest) (each : (u : ℕ) → Settles h u) where
    all_much : length (accepted p h) ≡ length (ran p h) + length rest
    all_much = ap length ordered ∙ length-append (ran p h) rest

    returned : (j : ℕ) → j < length (back p h) → (u key : ℕ) × (length (back p (take u h)) ≡ j) × (back p h ≡ back p (take u h) ++ (key ∷ flat_map (key_back p) (drop (suc u) h))) × IsReturned h u p key
    returned j l =
        let g : IsGivenAt (key_back p) h j = given_at (key_back p) (one_back p) h j l in
        let s : slice_get h g.place ≡ Some (Back p g.item) = g.stands ∙ ap Some (is_back p g.item g.from g.gives) in
        (g.place, g.item, g.before, back_parts g.place g.item s, (each g.place).is (Back p g.item) s)

    much : length rest ≡ length (back p h)
    much = elim (cases_lt 0 (length (accepted p h))) [
      | inl some ↦
          let g : IsGivenAt (key_accepted p) h 0 = given_at (key_accepted p) (one_accepted p) h 0 some in
          let a : IsAccounted h p = (each g.place).is (Accepted p g.item) (g.stands ∙ ap Some (is_accepted p g.item g.from g.gives)) in
          omega (arith, a.many, all_much)
      | inr none ↦ elim (cases_lt 0 (length (back p h))) [
        | inl some ↦
            let r = returned 0 some in
            let i : IsReturned h r.0 p r.1 = r.4 in
            absurd (omega (arith, ap length (accepted_parts i.place r.1 i.stands), length-append (accepted p (take i.place h)) (r.1 ∷ flat_map (key_accepted p) (drop (suc i.place) h))))
        | inr n ↦ omega (arith, all_much)
      ]
    ]

    same_at : (j d : ℕ) → j < length rest → get_or rest j d ≡ get_or (back p h) j d
    same_at j d l =
        let r = returned j (omega (arith, much)) in
        let u : ℕ = r.0 in
        let key : ℕ = r.1 in
        let i : IsReturned h u p key = r.4 in
        let there : get_or (back p h) j d ≡ key = ap (λ x. get_or x j d) r.3 ∙ get_or_at (back p (take u h)) key (flat_map (key_back p) (drop (suc u) h)) d j r.2 in
        let here : get_or (accepted p h) (length (ran p h) + j) d ≡ key = ap (λ x. get_or x (length (ran p h) + j) d) (accepted_parts i.place key i.stands) ∙ get_or_at (accepted p (take i.place h)) key (flat_map (key_accepted p) (drop (suc i.place) h)) d (length (ran p h) + j) (i.next ∙ ap (λ x. length (ran p h) + x) r.2) in
        sym (get_or-append-add (ran p h) rest j d) ∙ ap (λ x. get_or x (length (ran p h) + j) d) (sym ordered) ∙ here ∙ sym there

    accounted : accepted p h ≡ ran p h ++ back p h
    accounted = ordered ∙ ap (λ x. ran p h ++ x) (same_lists rest (back p h) much (λ j d l. same_at j d l))

pub settled_of : (h : List Mark) → IsOrdered h → ((u : ℕ) → Settles h u) → IsSettled h
settled_of h ordered each = record {
  accounted = λ p. accounted h p (ordered p).0 (ordered p).1 each;
  shut = λ p i key e.
      let r : IsReturned h i p key = (each i).is (Back p key) e in
      let w : r.shut.place < i = omega (arith, slice_get_within (take i h) r.shut.place (Shut p) r.shut.stands, length-take i h) in
      (r.shut.place, w, sym (get_of_front h i r.shut.place w) ∙ r.shut.stands);
}

returned_of : (h : List Mark) (p u key : ℕ) → IsSettled h → slice_get h u ≡ Some (Back p key) → IsReturned h u p key
returned_of h p u key settled e =
    let before : List ℕ = back p (take u h) in
    let after : List ℕ = flat_map (key_back p) (drop (suc u) h) in
    let all : accepted p h ≡ (ran p h ++ before) ++ (key ∷ after) = settled.accounted p ∙ ap (λ x. ran p h ++ x) (back_parts h p u key e) ∙ sym (append_assoc (ran p h) before (key ∷ after)) in
    let g : IsGivenAt (key_accepted p) h (length (ran p h ++ before)) = given_at (key_accepted p) (one_accepted p) h (length (ran p h ++ before)) (omega (arith, ap length all, length-append (ran p h ++ before) (key ∷ after))) in
    let later : List ℕ = flat_map (key_accepted p) (drop (suc g.place) h) in
    let parts : accepted p h ≡ accepted p (take g.place h) ++ (g.item ∷ later) = parted (key_accepted p) h g.place g.from g.stands ∙ ap (λ x. accepted p (take g.place h) ++ (x ++ later)) g.gives in
    let same : g.item ∷ later ≡ key ∷ after = same_rest (accepted p (take g.place h)) (g.item ∷ later) (ran p h ++ before) (key ∷ after) g.before (sym parts ∙ all) in
    let item : g.item ≡ key = cc in
    let s = settled.shut p u key e in
    record {
      place = g.place;
      stands = g.stands ∙ ap Some (is_accepted p g.item g.from g.gives ∙ ap (Accepted p) item);
      next = g.before ∙ length-append (ran p h) before;
      shut = record { place = s.0; stands = get_of_front h u s.0 s.1 ∙ s.2 };
    }

settles_as : (h : List Mark) (u : ℕ) → IsSettled h → (m : Mark) → slice_get h u ≡ Some m → SettlesAs h u m
settles_as h u settled (Accepted p key) e = record { many = ap length (settled.accounted p) ∙ length-append (ran p h) (back p h) }
settles_as h u settled (Reported q) e = tt
settles_as h u settled (Ran p key) e = tt
settles_as h u settled (Opened b) e = tt
settles_as h u settled (Passed b) e = tt
settles_as h u settled (Shut p) e = tt
settles_as h u settled (Back p key) e = returned_of h p u key settled e

pub settles_each : (h : List Mark) (u : ℕ) → IsSettled h → Settles h u
settles_each h u settled = record { is = settles_as h u settled }

-- what ran and what came back is no more than there are marks
one_or_other : (p : ℕ) (m : Mark) → length (key_ran p m) + length (key_back p m) ≤ 1
one_or_other p (Ran q key) = elim (cases_eq q p) [ inl e ↦ rw (eq-eqb q p e) (omega arith) | inr d ↦ rw (ne_eqb q p d) (omega arith) ]
one_or_other p (Back q key) = elim (cases_eq q p) [ inl e ↦ rw (eq-eqb q p e) (omega arith) | inr d ↦ rw (ne_eqb q p d) (omega arith) ]
one_or_other p (Accepted q key) = omega arith
one_or_other p (Reported q) = omega arith
one_or_other p (Opened b) = omega arith
one_or_other p (Passed b) = omega arith
one_or_other p (Shut q) = omega arith

pub few_ended : (p : ℕ) (h : List Mark) → length (ran p h) + length (back p h) ≤ length h
few_ended p [] = omega arith
few_ended p (m ∷ h) = omega (arith, few_ended p h, one_or_other p m, length-append (key_ran p m) (ran p h), length-append (key_back p m) (back p h))

pub fewer_back : (p : ℕ) (h : List Mark) (u : ℕ) → length (back p (take u h)) ≤ length (back p h)
fewer_back p h zero = omega arith
fewer_back p [] (suc u) = omega arith
fewer_back p (m ∷ h) (suc u) = omega (arith, fewer_back p h u, length-append (key_back p m) (back p h), length-append (key_back p m) (back p (take u h)))
