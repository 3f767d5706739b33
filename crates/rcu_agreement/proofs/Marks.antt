-- Places of marks in a history and in its prefixes.
use Rattle.std.proofs.Common.{◌≡◌, ℕ, zero, suc, ◌<◌, ◌≤◌, List, [], ◌∷◌, ◌++◌, length, take, drop, refl, ap, sym, ◌∙◌, arith, Some, length-append, inl, inr, ◌⊎◌}
use Rattle.std.specs.List.{slice_get, flat_map}
use Rattle.std.proofs.lemmas.Bool.{cases_eq, eq-eqb, ne_eqb}
use Rattle.std.proofs.lemmas.List.{take-take, take-append-drop}
use Rattle.std.proofs.lemmas.Grind.{flat_map-append}
use Rattle.rcu_world_law.specs.declared.marks.Mark.{Mark}
use Rattle.rcu_world_law.specs.declared.marks.Mark.TheVariants.{Accepted, Reported, Ran, Opened, Passed, Shut, Back}
use Rattle.rcu_world_law.specs.Law.{accepted, ran, key_accepted, IsPrefixOf, IsAccepted, IsRan}
use Rattle.rcu_world_law.specs.Invariant.{reports, report_of}
use Rattle.rcu_agreement.specs.Agreement.{IsReport}

cases_report : (q : ℕ) (m : Mark) → ((m ≡ Reported q) × (report_of q m ≡ 1)) ⊎ (report_of q m ≡ 0)
cases_report q (Accepted p key) = inr refl
cases_report q (Reported p) = elim (cases_eq p q) [ inl e ↦ inl (ap Reported e, rw (eq-eqb p q e) refl) | inr d ↦ inr (rw (ne_eqb p q d) refl) ]
cases_report q (Ran p key) = inr refl
cases_report q (Opened b) = inr refl
cases_report q (Passed b) = inr refl
cases_report q (Shut p) = inr refl
cases_report q (Back p key) = inr refl

cases_accepted : (p : ℕ) (m : Mark) → ((key : ℕ) × (m ≡ Accepted p key) × (key_accepted p m ≡ key ∷ [])) ⊎ (key_accepted p m ≡ [])
cases_accepted p (Accepted q key) = elim (cases_eq q p) [ inl e ↦ inl (key, ap (λ x. Accepted x key) e, rw (eq-eqb q p e) refl) | inr d ↦ inr (rw (ne_eqb q p d) refl) ]
cases_accepted p (Reported q) = inr refl
cases_accepted p (Ran q key) = inr refl
cases_accepted p (Opened b) = inr refl
cases_accepted p (Passed b) = inr refl
cases_accepted p (Shut q) = inr refl
cases_accepted p (Back q key) = inr refl

-- ---- the place of the j-th

pub report_at : (q j : ℕ) (h : List Mark) → j < reports q h → (i : ℕ) × IsReport h q j i
report_at q j [] l = absurd (omega arith)
report_at q zero (m ∷ h) l = elim (cases_report q m) [
  | inl e ↦ (0, record { stands = ap Some e.0; before = refl })
  | inr e ↦ let g = report_at q zero h (omega (arith, e)) in (suc g.0, record { stands = g.1.stands; before = omega (arith, e, g.1.before) })
]
report_at q (suc j) (m ∷ h) l = elim (cases_report q m) [
  | inl e ↦ let g = report_at q j h (omega (arith, e.1)) in (suc g.0, record { stands = g.1.stands; before = omega (arith, e.1, g.1.before) })
  | inr e ↦ let g = report_at q (suc j) h (omega (arith, e)) in (suc g.0, record { stands = g.1.stands; before = omega (arith, e, g.1.before) })
]

pub accepted_at : (p k : ℕ) (h : List Mark) → k < length (accepted p h) → (t : ℕ) × IsAccepted h p k t
accepted_at p k [] l = absurd (omega arith)
accepted_at p zero (m ∷ h) l = elim (cases_accepted p m) [
  | inl e ↦ (0, record { key = e.0; stands = ap Some e.1; before = refl })
  | inr e ↦ let g = accepted_at p zero h (omega (arith, length-append (key_accepted p m) (accepted p h), ap length e)) in
      (suc g.0, record { key = g.1.key; stands = g.1.stands; before = omega (arith, length-append (key_accepted p m) (accepted p (take g.0 h)), ap length e, g.1.before) })
]
accepted_at p (suc k) (m ∷ h) l = elim (cases_accepted p m) [
  | inl e ↦ let g = accepted_at p k h (omega (arith, length-append (key_accepted p m) (accepted p h), ap length e.2)) in
      (suc g.0, record { key = g.1.key; stands = g.1.stands; before = omega (arith, length-append (key_accepted p m) (accepted p (take g.0 h)), ap length e.2, g.1.before) })
  | inr e ↦ let g = accepted_at p (suc k) h (omega (arith, length-append (key_accepted p m) (accepted p h), ap length e)) in
      (suc g.0, record { key = g.1.key; stands = g.1.stands; before = omega (arith, length-append (key_accepted p m) (accepted p (take g.0 h)), ap length e, g.1.before) })
]

-- ---- prefixes

pub get_take : {X : Type 0} (m i : ℕ) (h : List X) → i < m → slice_get (take m h) i ≡ slice_get h i
get_take zero i h l = absurd (omega arith)
get_take (suc m) i [] l = refl
get_take (suc m) zero (x ∷ h) l = refl
get_take (suc m) (suc i) (x ∷ h) l = get_take m i h (omega arith)

pub taken_within : {X : Type 0} (m i : ℕ) (h : List X) (x : X) → slice_get (take m h) i ≡ Some x → i < m
taken_within zero i h x e = absurd cc
taken_within (suc m) i [] x e = absurd cc
taken_within (suc m) zero (y ∷ h) x e = omega arith
taken_within (suc m) (suc i) (y ∷ h) x e = let l : i < m = taken_within m i h x e in omega arith

-- what stands in a prefix stands in the whole, at the same place
pub get_whole : {X : Type 0} (m i : ℕ) (h : List X) (x : X) → slice_get (take m h) i ≡ Some x → slice_get h i ≡ Some x
get_whole m i h x e = sym (get_take m i h (taken_within m i h x e)) ∙ e

pub get_prefix : {X : Type 0} (m i : ℕ) (h : List X) (x : X) → i < m → slice_get h i ≡ Some x → slice_get (take m h) i ≡ Some x
get_prefix m i h x l e = get_take m i h l ∙ e

pub accepted_whole : (m : ℕ) (h : List Mark) (p k t : ℕ) → IsAccepted (take m h) p k t → IsAccepted h p k t
accepted_whole m h p k t a =
    let l : t < m = taken_within m t h (Accepted p a.key) a.stands in
    record { key = a.key; stands = get_whole m t h (Accepted p a.key) a.stands; before = ap (λ x. length (accepted p x)) (sym (take-take t m h (omega arith))) ∙ a.before }

pub accepted_prefix : (m : ℕ) (h : List Mark) (p k t : ℕ) → t < m → IsAccepted h p k t → IsAccepted (take m h) p k t
accepted_prefix m h p k t l a = record { key = a.key; stands = get_prefix m t h (Accepted p a.key) l a.stands; before = ap (λ x. length (accepted p x)) (take-take t m h (omega arith)) ∙ a.before }

pub ran_whole : (m : ℕ) (h : List Mark) (p k u : ℕ) → IsRan (take m h) p k u → IsRan h p k u
ran_whole m h p k u a =
    let l : u < m = taken_within m u h (Ran p a.key) a.stands in
    record { key = a.key; stands = get_whole m u h (Ran p a.key) a.stands; before = ap (λ x. length (ran p x)) (sym (take-take u m h (omega arith))) ∙ a.before }

pub ran_prefix : (m : ℕ) (h : List Mark) (p k u : ℕ) → u < m → IsRan h p k u → IsRan (take m h) p k u
ran_prefix m h p k u l a = record { key = a.key; stands = get_prefix m u h (Ran p a.key) l a.stands; before = ap (λ x. length (ran p x)) (take-take u m h (omega arith)) ∙ a.before }

-- the keys of a prefix are a prefix of the keys
pub keys_prefix : (f : Mark → List ℕ) (m : ℕ) (h : List Mark) → IsPrefixOf (flat_map f (take m h)) (flat_map f h)
keys_prefix f m h = (flat_map f (drop m h), ap (flat_map f) (sym (take-append-drop m h)) ∙ flat_map-append f (take m h) (drop m h))

pub fewer : (f : Mark → List ℕ) (i j : ℕ) (h : List Mark) → i ≤ j → length (flat_map f (take i h)) ≤ length (flat_map f (take j h))
fewer f i j h l =
    let p = keys_prefix f i (take j h) in
    omega (arith, ap length p.1, length-append (flat_map f (take i (take j h))) p.0, ap (λ x. length (flat_map f x)) (take-take i j h l))

-- of two prefixes of one list the shorter is a prefix of the longer
pub both_prefixes : (xs ys a b : List ℕ) → xs ++ a ≡ ys ++ b → length xs ≤ length ys → IsPrefixOf xs ys
both_prefixes [] ys a b e l = (ys, refl)
both_prefixes (x ∷ xs) [] a b e l = absurd (omega arith)
both_prefixes (x ∷ xs) (y ∷ ys) a b e l =
    let same : x ≡ y = cc in
    let rest : xs ++ a ≡ ys ++ b = cc in
    let g = both_prefixes xs ys a b rest (omega arith) in
    (g.0, ap (λ z. z ∷ ys) (sym same) ∙ ap (λ z. x ∷ z) g.1)
