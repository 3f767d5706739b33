-- What holds of an outcome that is made of others, where both are good.
use Rattle.std.proofs.Common.{◌≡◌, subst}
use Rattle.std.specs.Prelude.{Result, Ok, Err, IfOk}

module _ {A B E F : Type 0} (part : B → A) where
  -- by what holds of the part
  pub of_the_part : (P : A → Type 0) (R : B → Type 0) (x : Result A E) (r : Result B F) → IfOk r (λ t. x ≡ Ok (part t)) → IfOk x P → ((t : B) → P (part t) → R t) → IfOk r R
  of_the_part P R x (Ok t) is p so = so t (subst (λ y. IfOk y P) is p)
  of_the_part P R x (Err e) is p so = tt

  -- and by what else holds of the whole
  pub of_the_whole : (P : A → Type 0) (Q R : B → Type 0) (x : Result A E) (r : Result B F) → IfOk r (λ t. x ≡ Ok (part t)) → IfOk r Q → IfOk x P → ((t : B) → P (part t) → Q t → R t) → IfOk r R
  of_the_whole P Q R x (Ok t) is q p so = so t (subst (λ y. IfOk y P) is p) q
  of_the_whole P Q R x (Err e) is q p so = tt
