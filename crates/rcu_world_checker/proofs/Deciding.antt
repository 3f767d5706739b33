-- What the checker finds decides what a mark needs.
use Rattle.std.proofs.Common.{◌≡◌, ℕ, ◌+◌, ◌<◌, ◌≤◌, List, ◌∷◌, ◌++◌, [], get_or, length, take, ap, sym, subst, ◌∙◌, arith, Some, inl, inr}
use Rattle.std.specs.List.{slice_get}
use Rattle.std.proofs.lemmas.Option.{get_or_from_slice_get, slice_get_within, slice_get-get_or}
use Rattle.std.proofs.lemmas.Bool.{cases_lt}
use Rattle.std.proofs.lemmas.List.{take_all, take_more, take-take}
use Rattle.rcu_world_law.specs.declared.marks.Mark.{Mark}
use Rattle.rcu_world_law.specs.declared.marks.Mark.TheVariants.{Accepted, Reported, Ran, Opened, Passed, Shut, Back}
use Rattle.rcu_world_law.specs.Law.{accepted, back, ran, IsAccepted, IsCovered, IsLawful, IsSound}
use Rattle.rcu_world_law.proofs.Law.{accepted_within}
use Rattle.rcu_world_checker.specs.declared.kinds.Kind.TheVariants as kinds
use Rattle.rcu_world_checker.specs.Fits.{Fits, HasReported, HaveRun, IsDue, IsShutBefore}
use Rattle.rcu_world_checker.specs.Kinds.{IsNth}
use Rattle.rcu_world_checker.specs.Returns.{IsReturned, Settles, SettlesAs}
use Rattle.rcu_world_checker.proofs.Fitting.{accepted_once, fits_lawful, is_accepted, lawful_with}

-- what a look at a place finds stands there
pub stands_at : (h : List Mark) (i : ℕ) (d m : Mark) → i < length h → get_or h i d ≡ m → slice_get h i ≡ Some m
stands_at h i d m l e = slice_get-get_or h i d l ∙ ap Some e

nth_accepted : (h : List Mark) (p k t key : ℕ) → IsNth kinds.Accepted h p k t key → IsAccepted h p k t
nth_accepted h p k t key nth = record { key = key; stands = nth.stands ∙ ap Some (is_accepted p key nth.mark nth.gives); before = nth.before }

-- the k-th that p accepted has one key
nth_key : (h : List Mark) (p k t s key other : ℕ) → IsNth kinds.Accepted h p k t key → slice_get h s ≡ Some (Accepted p other) → length (accepted p (take s h)) ≡ k → (t ≡ s) × (key ≡ other)
unfolding nth_accepted
nth_key h p k t s key other nth stands before =
    let a : IsAccepted h p k t = nth_accepted h p k t key nth in
    let e : t ≡ s = accepted_once h p k t s a (record { key = other; stands = stands; before = before }) in
    let m : Accepted p key ≡ Accepted p other = (let q : Some (Accepted p key) ≡ Some (Accepted p other) = sym a.stands ∙ ap (slice_get h) e ∙ stands in cc) in
    (e, (let k : key ≡ other = cc in k))

beyond : (h : List Mark) (p k s key : ℕ) → length (accepted p h) ≤ k → slice_get h s ≡ Some (Accepted p key) → length (accepted p (take s h)) ≡ k → ⊥
beyond h p k s key few stands before = let l : k < length (accepted p h) = accepted_within h p k s (record { key = key; stands = stands; before = before }) in omega arith

pub due : (n : ℕ) (h : List Mark) (p t key : ℕ) → IsNth kinds.Accepted h p (length (ran p h)) t key → IsCovered n h t (length h) → IsDue n h p key
unfolding nth_accepted
due n h p t key nth covered = record { place = t; stands = (nth_accepted h p (length (ran p h)) t key nth).stands; next = nth.before; covered = covered }

pub due_key : (n : ℕ) (h : List Mark) (p t first key : ℕ) → IsNth kinds.Accepted h p (length (ran p h)) t first → IsDue n h p key → (first ≡ key) × IsCovered n h t (length h)
due_key n h p t first key nth d =
    let s = nth_key h p (length (ran p h)) t d.place first key nth d.stands d.next in
    (s.1, subst (λ x. IsCovered n h x (length h)) (sym s.0) d.covered)

pub none_due : (n : ℕ) (h : List Mark) (p key : ℕ) → length (accepted p h) ≤ length (ran p h) → IsDue n h p key → ⊥
none_due n h p key few d = beyond h p (length (ran p h)) d.place key few d.stands d.next

module _ (h : List Mark) (u p : ℕ) where
  abbrev ended : ℕ
  ended = length (ran p h) + length (back p (take u h))

  pub returned : (t key : ℕ) → IsNth kinds.Accepted h p (length (ran p h) + length (back p (take u h))) t key → IsShutBefore (take u h) p → IsReturned h u p key
  unfolding nth_accepted
  returned t key nth shut = record { place = t; stands = (nth_accepted h p ended t key nth).stands; next = nth.before; shut = shut }

  pub returned_key : (t first key : ℕ) → IsNth kinds.Accepted h p (length (ran p h) + length (back p (take u h))) t first → IsReturned h u p key → first ≡ key
  returned_key t first key nth r = (nth_key h p ended t r.place first key nth r.stands r.next).1

  pub none_returned : (key : ℕ) → length (accepted p h) ≤ length (ran p h) + length (back p (take u h)) → IsReturned h u p key → ⊥
  none_returned key few r = beyond h p ended r.place key few r.stands r.next

pub have_run_more : (h : List Mark) (a r : ℕ) → HaveRun h a r → ((p key : ℕ) → slice_get h a ≡ Some (Accepted p key) → length (accepted p (take a h)) < length (ran p (take r h))) → HaveRun h (a + 1) r
have_run_more h a r old new = record {
  each = λ p key t l s. elim (cases_lt t a) [
    | inl below ↦ old.each p key t below s
    | inr g ↦
        let e : t ≡ a = omega arith in
        subst (λ x. length (accepted p (take x h)) < length (ran p (take r h))) (sym e) (new p key (ap (slice_get h) (sym e) ∙ s))
  ];
}

-- a front of a lawful history is lawful
lawful_front : (n : ℕ) (h : List Mark) (m : ℕ) → IsLawful n h → IsLawful n (take m h)
lawful_front n h m lawful = record {
  each = λ i. elim (cases_lt m i) [
    | inl g ↦ subst (IsSound n) (sym (take_beyond m i h (omega arith))) (lawful.each m)
    | inr l ↦ subst (IsSound n) (sym (take-take i m h l)) (lawful.each i)
  ];
} where
  take_beyond : (m i : ℕ) (h : List Mark) → m ≤ i → take i (take m h) ≡ take m h
  take_beyond m i h l = take_all i (take m h) (omega (arith, Rattle.std.proofs.lemmas.List.length-take m h))

module _ (n : ℕ) (h : List Mark) (i : ℕ) (d : Mark) (within : i < length h) where
  more : take (i + 1) h ≡ take i h ++ get_or h i d ∷ []
  more = take_more h i d within

  pub lawful_more : IsLawful n (take i h) → Fits n (take i h) (get_or h i d) → IsLawful n (take (i + 1) h)
  lawful_more lawful fit = subst (IsLawful n) (sym more) (lawful_with n (take i h) (get_or h i d) lawful fit)

  pub fits_at : IsLawful n h → Fits n (take i h) (get_or h i d)
  fits_at lawful = fits_lawful n (take i h) (get_or h i d) (subst (IsLawful n) more (lawful_front n h (i + 1) lawful))

pub settles_by : (h : List Mark) (u : ℕ) (m : Mark) → slice_get h u ≡ Some m → SettlesAs h u m → Settles h u
settles_by h u m stands settles = record { is = λ x e. subst (SettlesAs h u) (let s : m ≡ x = cc in s) settles }

pub settles_other : (h : List Mark) (u : ℕ) → ((p key : ℕ) → slice_get h u ≡ Some (Accepted p key) → ⊥) → ((p key : ℕ) → slice_get h u ≡ Some (Back p key) → ⊥) → Settles h u
settles_other h u not_accepted not_back = record { is = λ m e. by m e } where
  by : (m : Mark) → slice_get h u ≡ Some m → SettlesAs h u m
  by (Accepted p key) e = absurd (not_accepted p key e)
  by (Reported q) e = tt
  by (Ran p key) e = tt
  by (Opened b) e = tt
  by (Passed b) e = tt
  by (Shut p) e = tt
  by (Back p key) e = absurd (not_back p key e)

pub settles_past : (h : List Mark) (u : ℕ) → length h ≤ u → Settles h u
settles_past h u g = record { is = λ m e. absurd (let l : u < length h = slice_get_within h u m e in omega arith) }

-- what stands at a place is what a look there finds
pub found_at : (h : List Mark) (i : ℕ) (d m : Mark) → slice_get h i ≡ Some m → get_or h i d ≡ m
found_at h i d m e = get_or_from_slice_get h i m d e

-- the reports after a place cover it up to the end
pub covers : (n : ℕ) (h : List Mark) (after : ℕ) → ((q : ℕ) → q < n → HasReported h after q) → IsCovered n h after (length h)
covers n h after each = record { each = λ q l. let r = each q l in (r.place, r.later, slice_get_within h r.place (Reported q) r.stands, r.stands) }

pub reports : (n : ℕ) (h : List Mark) (after q : ℕ) → q < n → IsCovered n h after (length h) → HasReported h after q
reports n h after q l covered = let e = covered.each q l in record { place = e.0; later = e.1; stands = e.3 }
