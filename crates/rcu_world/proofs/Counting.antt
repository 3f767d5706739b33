-- The counts of all processors
use Rattle.std.proofs.Common.{◌≡◌, ℕ, ◌+◌, ◌<◌, List, length, get_or, set, ap, ◌∙◌, sym, arith, inl, inr}
use Rattle.std.proofs.lemmas.Bool.{cases_eq}
use Rattle.std.proofs.lemmas.List.{get_or-set_same, get_or-set_other}

-- one more count
pub counts_more : (xs ys : List ℕ) (i v : ℕ) (f : ℕ → ℕ) → i < length xs → ((p : ℕ) → p < i → get_or xs p 0 ≡ f p) → v ≡ f i → ys ≡ set xs i v → (p : ℕ) → p < i + 1 → get_or ys p 0 ≡ f p
counts_more xs ys i v f l h e s p m = ap (λ zs. get_or zs p 0) s ∙ elim (cases_eq p i) as (λ d. get_or (set xs i v) p 0 ≡ f p) [
  | inl q ↦ ap (λ j. get_or (set xs i v) j 0) q ∙ get_or-set_same xs i v 0 l ∙ e ∙ sym (ap f q)
  | inr d ↦ get_or-set_other xs i p v 0 d ∙ h p (omega arith)
]
