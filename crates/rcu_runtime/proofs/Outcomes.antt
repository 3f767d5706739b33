-- What is said of one outcome, where it is the other one, and what `?` hands on.
use Rattle.std.proofs.Common.{◌≡◌, true, false, Result, Ok, Err, IsErr, IfErr, subst, sym}
use Rattle.std.specs.Prelude.{IsErrAnd}

-- where the answer is no, nothing is said of yes
pub untrue : {P : Type 0} → false ≡ true → P
untrue never = absurd (cc)

-- what is known of a fault that `?` hands on
pub on_fault : {T E : Type 0} (r : Result T E) (e : E) (P : E → Type 0) → IsErr r × IsErrAnd r (λ x. x ≡ e) → P e → IfErr r P
on_fault (Ok x) e P is p = tt
on_fault (Err x) e P is p = subst P (sym is.1) p
