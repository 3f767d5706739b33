-- What a mark asks of the history that it is added to, so that the history stays lawful.
use Rattle.std.proofs.Common.{◌≡◌, ℕ, zero, suc, ◌+◌, ◌<◌, ◌≤◌, List, [], ◌∷◌, ◌++◌, length, take, refl, ap, sym, subst, ◌∙◌, arith, Some, length-append, append_assoc, inl, inr, ◌==◌, cond}
use Rattle.std.specs.List.{slice_get, flat_map}
use Rattle.std.proofs.lemmas.Option.{slice_get_within}
use Rattle.std.proofs.lemmas.Bool.{cases_eq, eq-eqb, ne_eqb, cases_lt}
use Rattle.std.proofs.lemmas.List.{take-append-le, take_all, append-nil}
use Rattle.std.proofs.lemmas.Grind.{flat_map-append}
use Rattle.rcu_world_law.specs.declared.marks.Mark.{Mark}
use Rattle.rcu_world_law.specs.declared.marks.Mark.TheVariants.{Accepted, Reported, Ran, Opened, Passed, Shut, Back}
use Rattle.rcu_world_law.specs.Law.{accepted, ran, key_accepted, key_ran, IsPrefixOf, IsAccepted, IsRan, IsCovered, IsSound, IsLawful}
use Rattle.rcu_world_law.proofs.Ends.{get_before, get_some_before, get_cases}

pub record NextRan (n : ℕ) (h : List Mark) (p key : ℕ) : Type 0 where
  pub rest : List ℕ
  pub ordered : accepted p h ≡ ran p h ++ key ∷ rest
  pub covered : (t : ℕ) → IsAccepted h p (length (ran p h)) t → IsCovered n h t (length h)

pub record NextPassed (h : List Mark) (b : ℕ) : Type 0 where
  pub opened : (o : ℕ) × (slice_get h o ≡ Some (Opened b))
  pub ran : (o p k t : ℕ) → slice_get h o ≡ Some (Opened b) → IsAccepted h p k t → t < o → (u : ℕ) × (u < length h) × IsRan h p k u

abbrev pub IsNext : ℕ → List Mark → Mark → Type 0
IsNext n h (Accepted p key) = (i : ℕ) → slice_get h i ≡ Some (Shut p) → ⊥
IsNext n h (Reported q) = Unit {0}
IsNext n h (Ran p key) = NextRan n h p key
IsNext n h (Opened b) = (i : ℕ) → slice_get h i ≡ Some (Opened b) → ⊥
IsNext n h (Passed b) = NextPassed h b
IsNext n h (Shut p) = Unit {0}
IsNext n h (Back p key) = Unit {0}

pub accepted-push : (p : ℕ) (h : List Mark) (m : Mark) → accepted p (h ++ m ∷ []) ≡ accepted p h ++ key_accepted p m
accepted-push p h m = flat_map-append (key_accepted p) h (m ∷ []) ∙ ap (λ x. accepted p h ++ x) (append-nil (key_accepted p m))

pub ran-push : (p : ℕ) (h : List Mark) (m : Mark) → ran p (h ++ m ∷ []) ≡ ran p h ++ key_ran p m
ran-push p h m = flat_map-append (key_ran p) h (m ∷ []) ∙ ap (λ x. ran p h ++ x) (append-nil (key_ran p m))

-- the list before a place that is within
pub take_before : (h : List Mark) (m : Mark) (t : ℕ) → t ≤ length h → take t (h ++ m ∷ []) ≡ take t h
take_before h m t l = take-append-le t h (m ∷ []) l

pub accepted_before : (h : List Mark) (m : Mark) (p k t : ℕ) → t < length h → IsAccepted (h ++ m ∷ []) p k t → IsAccepted h p k t
accepted_before h m p k t l a = record {
  key = a.key;
  stands = sym (get_before h m t l) ∙ a.stands;
  before = ap (λ x. length (accepted p x)) (sym (take_before h m t (omega arith))) ∙ a.before;
}

pub accepted_after : (h : List Mark) (m : Mark) (p k t : ℕ) → IsAccepted h p k t → IsAccepted (h ++ m ∷ []) p k t
accepted_after h m p k t a =
    let l : t < length h = slice_get_within h t (Accepted p a.key) a.stands in
    record {
      key = a.key;
      stands = get_before h m t l ∙ a.stands;
      before = ap (λ x. length (accepted p x)) (take_before h m t (omega arith)) ∙ a.before;
    }

pub ran_before : (h : List Mark) (m : Mark) (p k u : ℕ) → u < length h → IsRan (h ++ m ∷ []) p k u → IsRan h p k u
ran_before h m p k u l a = record {
  key = a.key;
  stands = sym (get_before h m u l) ∙ a.stands;
  before = ap (λ x. length (ran p x)) (sym (take_before h m u (omega arith))) ∙ a.before;
}

pub ran_after : (h : List Mark) (m : Mark) (p k u : ℕ) → IsRan h p k u → IsRan (h ++ m ∷ []) p k u
ran_after h m p k u a =
    let l : u < length h = slice_get_within h u (Ran p a.key) a.stands in
    record {
      key = a.key;
      stands = get_before h m u l ∙ a.stands;
      before = ap (λ x. length (ran p x)) (take_before h m u (omega arith)) ∙ a.before;
    }

pub covered_after : (n : ℕ) (h : List Mark) (m : Mark) (t u : ℕ) → IsCovered n h t u → IsCovered n (h ++ m ∷ []) t u
covered_after n h m t u c = record { each = λ q l. let e = c.each q l in (e.0, e.1, e.2, get_some_before h m (Reported q) e.0 e.3) }

-- the k-th that ran is one of those that ran
pub own_ran : (p key : ℕ) → key_ran p (Ran p key) ≡ key ∷ []
own_ran p key = rw (eq-eqb p p refl) refl

pub own_accepted : (p key : ℕ) → key_accepted p (Accepted p key) ≡ key ∷ []
own_accepted p key = rw (eq-eqb p p refl) refl

length_step : (f : Mark → List ℕ) (h : List Mark) (t : ℕ) (m : Mark) → slice_get h t ≡ Some m → length (flat_map f (take t h)) + length (f m) ≤ length (flat_map f h)
length_step f [] t m e = absurd cc
length_step f (x ∷ h) zero m e =
    let s : x ≡ m = cc in
    omega (arith, length-append (f x) (flat_map f h), ap (λ y. length (f y)) s)
length_step f (x ∷ h) (suc t) m e =
    let i : length (flat_map f (take t h)) + length (f m) ≤ length (flat_map f h) = length_step f h t m e in
    omega (arith, length-append (f x) (flat_map f h), length-append (f x) (flat_map f (take t h)))

pub ran_within : (h : List Mark) (p k u : ℕ) → IsRan h p k u → k < length (ran p h)
ran_within h p k u a =
    let s : length (ran p (take u h)) + length (key_ran p (Ran p a.key)) ≤ length (ran p h) = length_step (key_ran p) h u (Ran p a.key) a.stands in
    let o : length (key_ran p (Ran p a.key)) ≡ 1 = ap length (own_ran p a.key) in
    omega (arith, a.before)

pub accepted_within : (h : List Mark) (p k t : ℕ) → IsAccepted h p k t → k < length (accepted p h)
accepted_within h p k t a =
    let s : length (accepted p (take t h)) + length (key_accepted p (Accepted p a.key)) ≤ length (accepted p h) = length_step (key_accepted p) h t (Accepted p a.key) a.stands in
    let o : length (key_accepted p (Accepted p a.key)) ≡ 1 = ap length (own_accepted p a.key) in
    omega (arith, a.before)

-- the law goes on

-- a mark that is no run of p leaves what ran of p a prefix
prefix_more : (xs ys zs : List ℕ) → IsPrefixOf xs ys → IsPrefixOf xs (ys ++ zs)
prefix_more xs ys zs p = (p.0 ++ zs, ap (λ l. l ++ zs) p.1 ∙ append_assoc xs p.0 zs)

prefix_ran : (p q key : ℕ) (a r rest : List ℕ) → (q ≡ p → a ≡ r ++ key ∷ rest) → IsPrefixOf r a → IsPrefixOf (r ++ cond (q == p) (key ∷ []) []) a
prefix_ran p q key a r rest h i = elim (cases_eq q p) [
  | inl e ↦ rw (eq-eqb q p e) (rest, h e ∙ sym (append_assoc r (key ∷ []) rest))
  | inr d ↦ rw (ne_eqb q p d, append-nil) i
]

ordered_next : (n : ℕ) (h : List Mark) (m : Mark) → IsNext n h m → (p : ℕ) → IsPrefixOf (ran p h) (accepted p h) → IsPrefixOf (ran p h ++ key_ran p m) (accepted p h ++ key_accepted p m)
ordered_next n h (Accepted q key) x p i = rw append-nil (prefix_more (ran p h) (accepted p h) (key_accepted p (Accepted q key)) i)
ordered_next n h (Reported q) x p i = rw (append-nil (ran p h), append-nil (accepted p h)) i
ordered_next n h (Ran q key) x p i = rw (append-nil (accepted p h))
    (prefix_ran p q key (accepted p h) (ran p h) x.rest (λ e. subst (λ v. accepted v h ≡ ran v h ++ key ∷ x.rest) e x.ordered) i)
ordered_next n h (Opened b) x p i = rw (append-nil (ran p h), append-nil (accepted p h)) i
ordered_next n h (Passed b) x p i = rw (append-nil (ran p h), append-nil (accepted p h)) i
ordered_next n h (Shut q) x p i = rw (append-nil (ran p h), append-nil (accepted p h)) i
ordered_next n h (Back q key) x p i = rw (append-nil (ran p h), append-nil (accepted p h)) i

module _ (n : ℕ) (h : List Mark) (m : Mark) (next : IsNext n h m) (old : IsSound n h) where
  private_graced : (p k t u : ℕ) → IsAccepted (h ++ m ∷ []) p k t → IsRan (h ++ m ∷ []) p k u → IsCovered n (h ++ m ∷ []) t u
  private_graced p k t u a r = elim (get_cases h m (Ran p r.key) u r.stands) [
    | inl w ↦
        let r' : IsRan h p k u = ran_before h m p k u w.0 r in
        elim (get_cases h m (Accepted p a.key) t a.stands) [
          | inl v ↦ covered_after n h m t u (old.graced p k t u (accepted_before h m p k t v.0 a) r')
          | inr v ↦
              let within : k < length (ran p h) = ran_within h p k u r' in
              let l : length (ran p h) ≤ length (accepted p h) = omega (arith, ap length (old.ordered p).1, length-append (ran p h) (old.ordered p).0) in
              let b : length (accepted p h) ≡ k = ap (λ x. length (accepted p x)) (sym (take_all (length h) h (omega arith)) ∙ sym (take_before h m (length h) (omega arith)) ∙ ap (λ x. take x (h ++ m ∷ [])) (sym v.0)) ∙ a.before in
              absurd (omega arith)
        ]
    | inr w ↦
        let x : NextRan n h p r.key = subst (IsNext n h) w.1 next in
        let b : length (ran p h) ≡ k = ap (λ x. length (ran p x)) (sym (take_all (length h) h (omega arith)) ∙ sym (take_before h m (length h) (omega arith)) ∙ ap (λ x. take x (h ++ m ∷ [])) (sym w.0)) ∙ r.before in
        elim (get_cases h m (Accepted p a.key) t a.stands) [
          | inl v ↦
              let a' : IsAccepted h p (length (ran p h)) t = subst (λ y. IsAccepted h p y t) (sym b) (accepted_before h m p k t v.0 a) in
              covered_after n h m t u (subst (IsCovered n h t) (sym w.0) (x.covered t a'))
          | inr v ↦ let e : Accepted p a.key ≡ Ran p r.key = sym v.1 ∙ w.1 in absurd cc
        ]
  ]

  private_barred : (b o e p k t : ℕ) → slice_get (h ++ m ∷ []) o ≡ Some (Opened b) → slice_get (h ++ m ∷ []) e ≡ Some (Passed b) → IsAccepted (h ++ m ∷ []) p k t → t < o → (u : ℕ) × (u < e) × IsRan (h ++ m ∷ []) p k u
  private_barred b o e p k t so se a l = elim (get_cases h m (Opened b) o so) [
    | inl v ↦
        let a' : IsAccepted h p k t = accepted_before h m p k t (omega (arith, v.0)) a in
        elim (get_cases h m (Passed b) e se) [
          | inl w ↦ let g = old.barred b o e p k t v.1 w.1 a' l in (g.0, g.1, ran_after h m p k g.0 g.2)
          | inr w ↦
              let x : NextPassed h b = subst (IsNext n h) w.1 next in
              let g = x.ran o p k t v.1 a' l in (g.0, omega (arith, g.1, w.0), ran_after h m p k g.0 g.2)
        ]
    | inr v ↦
        let x : (i : ℕ) → slice_get h i ≡ Some (Opened b) → ⊥ = subst (IsNext n h) v.1 next in
        elim (get_cases h m (Passed b) e se) [
          | inl w ↦ let g = old.opened.before b e w.1 in absurd (x g.0 g.2)
          | inr w ↦ let f : Opened b ≡ Passed b = sym v.1 ∙ w.1 in absurd cc
        ]
  ]

  private_before : (b e : ℕ) → slice_get (h ++ m ∷ []) e ≡ Some (Passed b) → (o : ℕ) × (o < e) × (slice_get (h ++ m ∷ []) o ≡ Some (Opened b))
  private_before b e s = elim (get_cases h m (Passed b) e s) [
    | inl w ↦ let g = old.opened.before b e w.1 in (g.0, g.1, get_some_before h m (Opened b) g.0 g.2)
    | inr w ↦
        let x : NextPassed h b = subst (IsNext n h) w.1 next in
        let l : x.opened.0 < length h = slice_get_within h x.opened.0 (Opened b) x.opened.1 in
        (x.opened.0, omega (arith, w.0), get_some_before h m (Opened b) x.opened.0 x.opened.1)
  ]

  private_once : (b i j : ℕ) → slice_get (h ++ m ∷ []) i ≡ Some (Opened b) → slice_get (h ++ m ∷ []) j ≡ Some (Opened b) → i ≡ j
  private_once b i j si sj = elim (get_cases h m (Opened b) i si) [
    | inl v ↦ elim (get_cases h m (Opened b) j sj) [
      | inl w ↦ old.opened.once b i j v.1 w.1
      | inr w ↦ let x : (i : ℕ) → slice_get h i ≡ Some (Opened b) → ⊥ = subst (IsNext n h) w.1 next in absurd (x i v.1)
    ]
    | inr v ↦ elim (get_cases h m (Opened b) j sj) [
      | inl w ↦ let x : (i : ℕ) → slice_get h i ≡ Some (Opened b) → ⊥ = subst (IsNext n h) v.1 next in absurd (x j w.1)
      | inr w ↦ v.0 ∙ sym w.0
    ]
  ]

  private_shut : (p i j key : ℕ) → slice_get (h ++ m ∷ []) i ≡ Some (Shut p) → slice_get (h ++ m ∷ []) j ≡ Some (Accepted p key) → j < i
  private_shut p i j key si sj = elim (get_cases h m (Accepted p key) j sj) [
    | inl v ↦ elim (get_cases h m (Shut p) i si) [
      | inl w ↦ old.shut p i j key w.1 v.1
      | inr w ↦ omega (arith, v.0, w.0)
    ]
    | inr v ↦
        let x : (i : ℕ) → slice_get h i ≡ Some (Shut p) → ⊥ = subst (IsNext n h) v.1 next in
        elim (get_cases h m (Shut p) i si) [
          | inl w ↦ absurd (x i w.1)
          | inr w ↦ let f : Accepted p key ≡ Shut p = sym v.1 ∙ w.1 in absurd cc
        ]
  ]

  pub sound_next : IsSound n (h ++ m ∷ [])
  sound_next = record {
    ordered = λ p. rw (ran-push p h m, accepted-push p h m) (ordered_next n h m next p (old.ordered p));
    graced = private_graced;
    barred = private_barred;
    opened = record { before = private_before; once = private_once };
    shut = private_shut;
  }

pub sound_whole : (n : ℕ) (h : List Mark) → IsLawful n h → IsSound n h
sound_whole n h l = subst (IsSound n) (take_all (length h) h (omega arith)) (l.each (length h))

pub lawful_next : (n : ℕ) (h : List Mark) (m : Mark) → IsNext n h m → IsLawful n h → IsLawful n (h ++ m ∷ [])
lawful_next n h m next l = record {
  each = λ i. elim (cases_lt (length h) i) [
    | inl g ↦ subst (IsSound n) (sym (take_all i (h ++ m ∷ []) (omega (arith, length-append h (m ∷ []))))) (sound_next n h m next (sound_whole n h l))
    | inr g ↦ subst (IsSound n) (sym (take_before h m i g)) (l.each i)
  ];
}
