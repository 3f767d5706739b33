-- A mark fits just where the history with it is lawful.
use Rattle.std.proofs.Common.{◌≡◌, ℕ, suc, ◌<◌, ◌≤◌, List, [], ◌∷◌, ◌++◌, length, take, drop, refl, ap, sym, subst, ◌∙◌, arith, Some, length-append, append_assoc, ◌⊎◌, inl, inr}
use Rattle.std.specs.List.{slice_get, flat_map}
use Rattle.std.proofs.lemmas.Option.{slice_get_within}
use Rattle.std.proofs.lemmas.Bool.{cases_eq, cases_lt, eq-eqb, ne_eqb}
use Rattle.std.proofs.lemmas.List.{append-nil, length-take, take_all, take-take}
use Rattle.rcu_world_law.specs.declared.marks.Mark.{Mark}
use Rattle.rcu_world_law.specs.declared.marks.Mark.TheVariants.{Accepted, Reported, Ran, Opened, Passed, Shut, Back}
use Rattle.rcu_world_law.specs.Law.{accepted, ran, key_accepted, key_ran, IsAccepted, IsCovered, IsLawful, IsOrdered, IsRan, IsSound}
use Rattle.rcu_world_law.proofs.Ends.{get_before, get_last, get_some_before}
use Rattle.rcu_world_law.proofs.Law.{IsNext, NextRan, accepted_after, accepted-push, lawful_next, own_accepted, own_ran, ran_before, ran-push, sound_whole, take_before}
use Rattle.rcu_world_checker.specs.Fits.{Fits, HaveRun, IsDue}
use Rattle.rcu_world_checker.proofs.Lists.{IsGivenAt, get_of_front, given_at, parted, rises, same_rest}

-- what a mark gives to the list of what p accepted, and of what ran
pub one_accepted : (p : ℕ) (m : Mark) → (key_accepted p m ≡ []) ⊎ ((key : ℕ) × (key_accepted p m ≡ key ∷ []))
one_accepted p (Accepted q key) = elim (cases_eq q p) [ inl e ↦ inr (key, rw (eq-eqb q p e) refl) | inr d ↦ inl (rw (ne_eqb q p d) refl) ]
one_accepted p (Reported q) = inl refl
one_accepted p (Ran q key) = inl refl
one_accepted p (Opened b) = inl refl
one_accepted p (Passed b) = inl refl
one_accepted p (Shut q) = inl refl
one_accepted p (Back q key) = inl refl

one_ran : (p : ℕ) (m : Mark) → (key_ran p m ≡ []) ⊎ ((key : ℕ) × (key_ran p m ≡ key ∷ []))
one_ran p (Ran q key) = elim (cases_eq q p) [ inl e ↦ inr (key, rw (eq-eqb q p e) refl) | inr d ↦ inl (rw (ne_eqb q p d) refl) ]
one_ran p (Accepted q key) = inl refl
one_ran p (Reported q) = inl refl
one_ran p (Opened b) = inl refl
one_ran p (Passed b) = inl refl
one_ran p (Shut q) = inl refl
one_ran p (Back q key) = inl refl

-- a mark that gives a key to one of them is of p and of that kind
pub is_accepted : (p key : ℕ) (m : Mark) → key_accepted p m ≡ key ∷ [] → m ≡ Accepted p key
is_accepted p key (Accepted q other) e = elim (cases_eq q p) [
  | inl s ↦ let o : other ∷ [] ≡ key ∷ [] = sym (own_accepted p other) ∙ ap (λ x. key_accepted p (Accepted x other)) (sym s) ∙ e in let k : other ≡ key = cc in cc
  | inr d ↦ let o : [] ≡ key ∷ [] = rw (ne_eqb q p d) at e in absurd cc
]
is_accepted p key (Reported q) e = absurd cc
is_accepted p key (Ran q other) e = absurd cc
is_accepted p key (Opened b) e = absurd cc
is_accepted p key (Passed b) e = absurd cc
is_accepted p key (Shut q) e = absurd cc
is_accepted p key (Back q other) e = absurd cc

is_ran : (p key : ℕ) (m : Mark) → key_ran p m ≡ key ∷ [] → m ≡ Ran p key
is_ran p key (Ran q other) e = elim (cases_eq q p) [
  | inl s ↦ let o : other ∷ [] ≡ key ∷ [] = sym (own_ran p other) ∙ ap (λ x. key_ran p (Ran x other)) (sym s) ∙ e in let k : other ≡ key = cc in cc
  | inr d ↦ let o : [] ≡ key ∷ [] = rw (ne_eqb q p d) at e in absurd cc
]
is_ran p key (Accepted q other) e = absurd cc
is_ran p key (Reported q) e = absurd cc
is_ran p key (Opened b) e = absurd cc
is_ran p key (Passed b) e = absurd cc
is_ran p key (Shut q) e = absurd cc
is_ran p key (Back q other) e = absurd cc

-- the k-th that p accepted stands at one place
pub accepted_once : (h : List Mark) (p k t s : ℕ) → IsAccepted h p k t → IsAccepted h p k s → t ≡ s
accepted_once h p k t s a b = elim (cases_lt t s) [
  | inl l ↦ absurd (let r : length (accepted p (take t h)) < length (accepted p (take s h)) = rises (key_accepted p) h t s (Accepted p a.key) a.key l a.stands (own_accepted p a.key) in omega (arith, a.before, b.before))
  | inr g ↦ elim (cases_lt s t) [
    | inl l ↦ absurd (let r : length (accepted p (take s h)) < length (accepted p (take t h)) = rises (key_accepted p) h s t (Accepted p b.key) b.key l b.stands (own_accepted p b.key) in omega (arith, a.before, b.before))
    | inr g2 ↦ omega arith
  ]
]

-- the k-th of p that ran, where more than k ran before a place
ran_at : (h : List Mark) (p k r : ℕ) → k < length (ran p (take r h)) → (u : ℕ) × (u < r) × IsRan h p k u
ran_at h p k r l =
    let g : IsGivenAt (key_ran p) (take r h) k = given_at (key_ran p) (one_ran p) (take r h) k l in
    let w : g.place < r = omega (arith, g.within, length-take r h) in
    let m : g.from ≡ Ran p g.item = is_ran p g.item g.from g.gives in (
      g.place,
      w,
      record {
        key = g.item;
        stands = sym (get_of_front h r g.place w) ∙ g.stands ∙ ap Some m;
        before = ap (λ x. length (ran p x)) (sym (take-take g.place r h (omega arith))) ∙ g.before;
      },
    )

whole : (h : List Mark) → take (length h) h ≡ h
whole h = take_all (length h) h (omega arith)

-- what fits keeps the law
due_next : (n : ℕ) (h : List Mark) (p key : ℕ) → IsOrdered h → IsDue n h p key → NextRan n h p key
due_next n h p key ordered d =
    let before : List ℕ = accepted p (take d.place h) in
    let after : List ℕ = flat_map (key_accepted p) (drop (suc d.place) h) in
    let parts : accepted p h ≡ before ++ (key ∷ after) = parted (key_accepted p) h d.place (Accepted p key) d.stands ∙ ap (λ x. before ++ (x ++ after)) (own_accepted p key) in
    let rest : (ordered p).0 ≡ key ∷ after = same_rest (ran p h) (ordered p).0 before (key ∷ after) (sym d.next) (sym (ordered p).1 ∙ parts) in
    record {
      rest = after;
      ordered = (ordered p).1 ∙ ap (λ x. ran p h ++ x) rest;
      covered = λ t a. subst (λ x. IsCovered n h x (length h)) (accepted_once h p (length (ran p h)) d.place t (record { key = key; stands = d.stands; before = d.next }) a) d.covered;
    }

next_of : (n : ℕ) (h : List Mark) (m : Mark) → IsOrdered h → Fits n h m → IsNext n h m
next_of n h (Accepted p key) ordered fit = λ i e. fit (record { place = i; stands = e })
next_of n h (Reported q) ordered fit = tt
next_of n h (Ran p key) ordered fit = due_next n h p key ordered fit
next_of n h (Opened b) ordered fit = λ i e. fit (record { place = i; stands = e })
next_of n h (Passed b) ordered fit = record {
  opened = (fit.opened.place, fit.opened.stands);
  ran = λ o p k t s a l.
      let r : length (accepted p (take t h)) < length (ran p (take (length h) h)) = (fit.each o s).each p a.key t l a.stands in
      ran_at h p k (length h) (omega (arith, a.before));
}
next_of n h (Shut p) ordered fit = tt
next_of n h (Back p key) ordered fit = tt

pub lawful_with : (n : ℕ) (h : List Mark) (m : Mark) → IsLawful n h → Fits n h m → IsLawful n (h ++ m ∷ [])
lawful_with n h m lawful fit = lawful_next n h m (next_of n h m (sound_whole n h lawful).ordered fit) lawful

-- what keeps the law fits
module _ (n : ℕ) (h : List Mark) where
  due_of : (p key : ℕ) → IsSound n (h ++ Ran p key ∷ []) → IsDue n h p key
  due_of p key sound =
      let rest : List ℕ = (sound.ordered p).0 in
      let runs : ran p (h ++ Ran p key ∷ []) ≡ ran p h ++ key ∷ [] = ran-push p h (Ran p key) ∙ ap (λ x. ran p h ++ x) (own_ran p key) in
      let accepts : accepted p (h ++ Ran p key ∷ []) ≡ accepted p h = accepted-push p h (Ran p key) ∙ append-nil (accepted p h) in
      let all : accepted p h ≡ ran p h ++ (key ∷ rest) = sym accepts ∙ (sound.ordered p).1 ∙ ap (λ x. x ++ rest) runs ∙ append_assoc (ran p h) (key ∷ []) rest in
      let g : IsGivenAt (key_accepted p) h (length (ran p h)) = given_at (key_accepted p) (one_accepted p) h (length (ran p h)) (omega (arith, ap length all, length-append (ran p h) (key ∷ rest))) in
      let after : List ℕ = flat_map (key_accepted p) (drop (suc g.place) h) in
      let parts : accepted p h ≡ accepted p (take g.place h) ++ (g.item ∷ after) = parted (key_accepted p) h g.place g.from g.stands ∙ ap (λ x. accepted p (take g.place h) ++ (x ++ after)) g.gives in
      let same : g.item ∷ after ≡ key ∷ rest = same_rest (accepted p (take g.place h)) (g.item ∷ after) (ran p h) (key ∷ rest) g.before (sym parts ∙ all) in
      let item : g.item ≡ key = cc in
      let stands : slice_get h g.place ≡ Some (Accepted p key) = g.stands ∙ ap Some (is_accepted p g.item g.from g.gives ∙ ap (Accepted p) item) in
      let a : IsAccepted h p (length (ran p h)) g.place = record { key = key; stands = stands; before = g.before } in
      let r : IsRan (h ++ Ran p key ∷ []) p (length (ran p h)) (length h) = record { key = key; stands = get_last h (Ran p key); before = ap (λ x. length (ran p x)) (take_before h (Ran p key) (length h) (omega arith) ∙ whole h) } in
      let c : IsCovered n (h ++ Ran p key ∷ []) g.place (length h) = sound.graced p (length (ran p h)) g.place (length h) (accepted_after h (Ran p key) p (length (ran p h)) g.place a) r in
      record {
        place = g.place;
        stands = stands;
        next = g.before;
        covered = record { each = λ q l. let e = c.each q l in (e.0, e.1, e.2, sym (get_before h (Ran p key) e.0 e.2) ∙ e.3) };
      }

  -- where it ran before a place, more ran before that place
  more_ran : (m : Mark) (p k e : ℕ) → e ≤ length h → (u : ℕ) × (u < e) × IsRan (h ++ m ∷ []) p k u → k < length (ran p (take e h))
  more_ran m p k e l r =
      let here : IsRan h p k r.0 = ran_before h m p k r.0 (omega (arith, r.1)) r.2 in
      let more : length (ran p (take r.0 h)) < length (ran p (take e h)) = rises (key_ran p) h r.0 e (Ran p here.key) here.key r.1 here.stands (own_ran p here.key) in
      omega (arith, here.before)

  ran_all : (m : Mark) (a e : ℕ) → a ≤ length h → e ≤ length h → ((p k t : ℕ) → IsAccepted (h ++ m ∷ []) p k t → t < a → (u : ℕ) × (u < e) × IsRan (h ++ m ∷ []) p k u) → HaveRun h a e
  ran_all m a e la le barred = record {
    each = λ p key t l s.
        let k : ℕ = length (accepted p (take t h)) in
        more_ran m p k e le (barred p k t (accepted_after h m p k t (record { key = key; stands = s; before = refl })) l);
  }

  fits_of_sound : (m : Mark) → IsSound n (h ++ m ∷ []) → Fits n h m
  fits_of_sound (Accepted p key) sound = λ s.
      let l : length h < s.place = sound.shut p s.place (length h) key (get_some_before h (Accepted p key) (Shut p) s.place s.stands) (get_last h (Accepted p key)) in
      let w : s.place < length h = slice_get_within h s.place (Shut p) s.stands in
      omega arith
  fits_of_sound (Reported q) sound = tt
  fits_of_sound (Ran p key) sound = due_of p key sound
  fits_of_sound (Opened b) sound = λ s.
      let e : s.place ≡ length h = sound.opened.once b s.place (length h) (get_some_before h (Opened b) (Opened b) s.place s.stands) (get_last h (Opened b)) in
      let w : s.place < length h = slice_get_within h s.place (Opened b) s.stands in
      omega arith
  fits_of_sound (Passed b) sound = record {
    opened = (let o = sound.opened.before b (length h) (get_last h (Passed b)) in record { place = o.0; stands = sym (get_before h (Passed b) o.0 o.1) ∙ o.2 });
    each = λ o s. ran_all (Passed b) o (length h) (let w : o < length h = slice_get_within h o (Opened b) s in omega arith) (omega arith)
        (λ p k t a l. sound.barred b o (length h) p k t (get_some_before h (Passed b) (Opened b) o s) (get_last h (Passed b)) a l);
  }
  fits_of_sound (Shut p) sound = tt
  fits_of_sound (Back p key) sound = tt

  pub fits_lawful : (m : Mark) → IsLawful n (h ++ m ∷ []) → Fits n h m
  fits_lawful m lawful = fits_of_sound m (sound_whole n (h ++ m ∷ []) lawful)
