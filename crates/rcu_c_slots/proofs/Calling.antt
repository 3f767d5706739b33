-- What an answer says, by whether it is Ok.
use Rattle.std.proofs.Common.{◌≡◌, Result, Ok, Err, IfOk, IfErr, IsErr, refl, subst}
use Rattle.std.specs.Prelude.{MatchResult}

module _ {A E : Type 0} where
  pub match_by : (r : Result A E) (P : A → Type 0) (Q : E → Type 0) → ((x : A) → r ≡ Ok x → P x) → ((e : E) → r ≡ Err e → Q e) → MatchResult r P Q
  match_by (Ok x) P Q f g = f x refl
  match_by (Err e) P Q f g = g e refl

  pub ok_at : (r : Result A E) (x : A) (P : A → Type 0) → r ≡ Ok x → IfOk r P → P x
  ok_at r x P is h = subst (λ (y : Result A E). IfOk y P) is h

  pub err_at : (r : Result A E) (e : E) (P : E → Type 0) → r ≡ Err e → IfErr r P → P e
  err_at r e P is h = subst (λ (y : Result A E). IfErr y P) is h

  pub never_err : (r : Result A E) (x : A) → r ≡ Ok x → IsErr r → ⊥
  never_err r x is h = let f : IsErr {T = A} {E = E} (Ok x) = subst (λ (y : Result A E). IsErr y) is h in cc
