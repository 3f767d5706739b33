-- Marks by rank: a list of blocks, each of one rank, in rising ranks.
use Rattle.std.proofs.Common.{◌≡◌, ℕ, zero, suc, ◌+◌, ◌<◌, ◌≤◌, List, [], ◌∷◌, ◌++◌, length, map, replicate, ap, subst, ◌∙◌, arith, Some, inl, inr, ◌⊎◌}
use Rattle.std.specs.List.{slice_get}
use Rattle.rcu_agreement.specs.Accounts.{Account}
use Rattle.rcu_agreement.specs.Plain.{of_all}
use Rattle.rcu_world_law.specs.declared.marks.Mark.{Mark}
use Rattle.rcu_world_law.specs.declared.marks.Mark.TheVariants.{Accepted, Reported, Ran, Opened, Passed, Shut, Back}

-- the place of its block in the plain history
abbrev pub rank : Mark → ℕ
rank (Opened b) = 0
rank (Accepted p key) = 1
rank (Reported q) = 2
rank (Ran p key) = 3
rank (Passed b) = 4
rank (Shut p) = 5
rank (Back p key) = 6

-- places in two lists, one after the other
pub get_parts : {X : Type 0} (a b : List X) (i : ℕ) (x : X) → slice_get (a ++ b) i ≡ Some x → ((i < length a) × (slice_get a i ≡ Some x)) ⊎ ((j : ℕ) × (i ≡ length a + j) × (slice_get b j ≡ Some x))
get_parts [] b i x e = inr (i, omega arith, e)
get_parts (y ∷ a) b zero x e = inl (omega arith, e)
get_parts (y ∷ a) b (suc i) x e = elim (get_parts a b i x e) [ inl u ↦ let l = u.0 in inl (omega arith, u.1) | inr u ↦ let f = u.1 in inr (u.0, omega arith, u.2) ]

pub get_right : {X : Type 0} (a b : List X) (i : ℕ) (x : X) → slice_get b i ≡ Some x → slice_get (a ++ b) (length a + i) ≡ Some x
get_right [] b i x e = ap (slice_get b) (let z : 0 + i ≡ i = omega arith in z) ∙ e
get_right (y ∷ a) b i x e = ap (slice_get (y ∷ (a ++ b))) (let z : suc (length a) + i ≡ suc (length a + i) = omega arith in z) ∙ get_right a b i x e

pub get_left : {X : Type 0} (a b : List X) (i : ℕ) (x : X) → slice_get a i ≡ Some x → slice_get (a ++ b) i ≡ Some x
get_left [] b i x e = absurd cc
get_left (y ∷ a) b zero x e = e
get_left (y ∷ a) b (suc i) x e = get_left a b i x e

-- what is said of each mark
pub record Each (P : Mark → Type 0) (h : List Mark) : Type 0 where
  pub each : (i : ℕ) (m : Mark) → slice_get h i ≡ Some m → P m

module _ (P : Mark → Type 0) where
  pub each_append : (a b : List Mark) → Each P a → Each P b → Each P (a ++ b)
  each_append a b x y = record { each = λ i m e. elim (get_parts a b i m e) [ inl u ↦ x.each i m u.1 | inr u ↦ y.each u.0 m u.2 ] }

  pub each_none : Each P []
  each_none = record { each = λ i m e. absurd cc }

  cons_at : (m : Mark) (h : List Mark) → P m → Each P h → (i : ℕ) (x : Mark) → slice_get (m ∷ h) i ≡ Some x → P x
  cons_at m h e a zero x s = let f : m ≡ x = cc in subst P f e
  cons_at m h e a (suc i) x s = a.each i x s

  pub each_cons : (m : Mark) (h : List Mark) → P m → Each P h → Each P (m ∷ h)
  each_cons m h e a = record { each = cons_at m h e a }

  pub each_map : (f : ℕ → Mark) (ks : List ℕ) → ((k : ℕ) → P (f k)) → Each P (map f ks)
  each_map f [] e = each_none
  each_map f (k ∷ ks) e = each_cons (f k) (map f ks) (e k) (each_map f ks e)

  pub each_replicate : (n : ℕ) (m : Mark) → P m → Each P (replicate n m)
  each_replicate zero m e = each_none
  each_replicate (suc n) m e = each_cons m (replicate n m) e (each_replicate n m e)

  pub each_all : (f : ℕ → Account → List Mark) (p : ℕ) (xs : List Account) → ((q : ℕ) (a : Account) → Each P (f q a)) → Each P (of_all f p xs)
  each_all f p [] e = each_none
  each_all f p (a ∷ xs) e = each_append (f p a) (of_all f (suc p) xs) (e p a) (each_all f (suc p) xs e)

-- each mark has this rank
abbrev pub Has : ℕ → List Mark → Type 0
Has r h = Each (λ m. rank m ≡ r) h

-- no rank is below r, and of two marks the one of the lower rank is first
pub record Rises (r : ℕ) (h : List Mark) : Type 0 where
  pub above : (i : ℕ) (m : Mark) → slice_get h i ≡ Some m → r ≤ rank m
  pub order : (i j : ℕ) (m x : Mark) → slice_get h i ≡ Some m → slice_get h j ≡ Some x → rank m < rank x → i < j

pub rises_last : (r : ℕ) (h : List Mark) → Has r h → Rises r h
rises_last r h a = record {
  above = λ i m e. omega (arith, a.each i m e);
  order = λ i j m x e f w. absurd (omega (arith, w, a.each i m e, a.each j x f));
}

pub rises_more : (r : ℕ) (a h : List Mark) → Has r a → Rises (suc r) h → Rises r (a ++ h)
rises_more r a h b g = record {
  above = λ i m e. elim (get_parts a h i m e) [ inl u ↦ omega (arith, b.each i m u.1) | inr u ↦ omega (arith, g.above u.0 m u.2) ];
  order = λ i j m x e f w. elim (get_parts a h i m e) [
    | inl u ↦ elim (get_parts a h j x f) [
      | inl v ↦ absurd (omega (arith, w, b.each i m u.1, b.each j x v.1))
      | inr v ↦ omega (arith, u.0, v.1)
    ]
    | inr u ↦ elim (get_parts a h j x f) [
      | inl v ↦ absurd (omega (arith, w, g.above u.0 m u.2, b.each j x v.1))
      | inr v ↦ let o : u.0 < v.0 = g.order u.0 v.0 m x u.2 v.2 w in omega (arith, o, u.1, v.1)
    ]
  ];
}
