-- What is lent of a list, or that there is nothing in a place.
use Rattle.std.proofs.Common.{◌≡◌, ℕ, Bor, List, None, Some, sym, ap, ◌∙◌, subst}
use Rattle.std.proofs.lemmas.Option.{slice_get-get_or, slice_get_past}
use Rattle.core.specs.Slice.{IsItemAt}
use Rattle.std.specs.List.{slice_get}

module _ {X : Type 0} (xs ys : List X) (i : ℕ) (same : ys ≡ xs) where
  pub lent_some : (b : Bor X) → IsItemAt ys i (Some b) → slice_get xs i ≡ Some b.now
  lent_some b at = subst (λ l. slice_get l i ≡ Some b.now) same (slice_get-get_or ys i b.now at.3.0 ∙ ap Some (sym at.1))

  pub lent_none : IsItemAt ys i None → slice_get xs i ≡ None
  lent_none at = subst (λ l. slice_get l i ≡ None) same (slice_get_past ys i at.3)
