-- Places in a list that grows at its end.
use Rattle.std.proofs.Common.{◌≡◌, ℕ, zero, suc, ◌<◌, List, [], ◌∷◌, ◌++◌, length, refl, ap, ◌∙◌, arith, Some, inl, inr, ◌⊎◌}
use Rattle.std.specs.List.{slice_get}
use Rattle.std.proofs.lemmas.Option.{slice_get_within}

pub get_before : {X : Type 0} (h : List X) (m : X) (i : ℕ) → i < length h → slice_get (h ++ m ∷ []) i ≡ slice_get h i
get_before [] m i l = absurd (omega arith)
get_before (x ∷ h) m zero l = refl
get_before (x ∷ h) m (suc i) l = get_before h m i (omega arith)

pub get_last : {X : Type 0} (h : List X) (m : X) → slice_get (h ++ m ∷ []) (length h) ≡ Some m
get_last [] m = refl
get_last (x ∷ h) m = get_last h m

pub get_some_before : {X : Type 0} (h : List X) (m x : X) (i : ℕ) → slice_get h i ≡ Some x → slice_get (h ++ m ∷ []) i ≡ Some x
get_some_before h m x i e = get_before h m i (slice_get_within h i x e) ∙ e

-- what stands in the longer list stands in the shorter one, or is its new end
pub get_cases : {X : Type 0} (h : List X) (m x : X) (i : ℕ) → slice_get (h ++ m ∷ []) i ≡ Some x
    → ((i < length h) × (slice_get h i ≡ Some x)) ⊎ ((i ≡ length h) × (m ≡ x))
get_cases [] m x zero e = let f : m ≡ x = cc in inr (refl, f)
get_cases [] m x (suc i) e = absurd cc
get_cases (y ∷ h) m x zero e = inl (omega arith, e)
get_cases (y ∷ h) m x (suc i) e = elim (get_cases h m x i e) [ inl p ↦ let l = p.0 in inl (omega arith, p.1) | inr p ↦ inr (ap suc p.0, p.1) ]
