-- What is said of one outcome, where it is the other one.
use Rattle.std.proofs.Common.{◌≡◌, List, Result, Ok, Err, IsErr, IsOk, IfOk, OnOk, OnErr, cond, is_ok}

module _ {T E : Type 0} where
  pub if_ok_never : {Q : Type 0} (r : Result T E) (P : T → Type 0) → IsErr r × Q → IfOk r P
  if_ok_never (Ok x) P h = absurd (let e = h.0 in cc)
  if_ok_never (Err x) P h = tt

  pub on_ok_never : {Q : Type 0} (r : Result T E) (P : Type 0) → IsErr r × Q → OnOk r P
  on_ok_never r P h = if_ok_never r (λ _. P) h

  pub on_err_said : (r : Result T E) (P : Type 0) → P → OnErr r P
  on_err_said (Ok x) P h = tt
  on_err_said (Err x) P h = h

  pub on_err_so : {P Q : Type 0} (r : Result T E) → (P → Q) → OnErr r P → OnErr r Q
  on_err_so (Ok x) f h = tt
  on_err_so (Err x) f h = f h

  -- what follows from either outcome
  pub either_way : (A B P : Type 0) (r : Result T E) → OnOk r A → OnErr r B → (A → P) → (B → P) → P
  either_way A B P (Ok x) a b f h = f a
  either_way A B P (Err x) a b f h = h b

  pub on_ok_both : (A B : Type 0) (r : Result T E) → OnOk r A → OnOk r B → OnOk r (A × B)
  on_ok_both A B (Ok x) a b = (a, b)
  on_ok_both A B (Err x) a b = tt

-- what a list has become where the outcome is good
module _ {T E X : Type 0} where
  pub where_ok : (r : Result T E) (xs ys zs : List X) → IsOk r → zs ≡ cond (is_ok r) xs ys → zs ≡ xs
  where_ok (Ok x) xs ys zs ok e = e
  where_ok (Err x) xs ys zs ok e = absurd (let f = ok in cc)
