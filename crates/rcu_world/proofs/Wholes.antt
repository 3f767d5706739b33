-- loops that have come to their end
use Rattle.std.proofs.Common.{◌≡◌, ℕ, List, Result, Ok, Err, IsErr, IfOk, subst}
use Rattle.std.specs.Result.{OnErr, OnOk}
use Rattle.rcu_world_law.specs.States.{State}
use Rattle.rcu_world_law.specs.Events.{CoreEvent}
use Rattle.rcu_world.specs.GroupTurns.{Made, Upto}
use Rattle.rcu_world.specs.Turns.{Leads, upto}

pub leads_all : (f : ℕ → State → List CoreEvent) (i n : ℕ) (a b : State) → i ≡ n → Leads a (upto f i a) b → Leads a (upto f n a) b
leads_all f i n a b e l = subst (λ k. Leads a (upto f k a) b) e l

pub made_all : (F : ℕ → State → List CoreEvent → Type 0) (i n : ℕ) (a b : State) (took gave : ℕ) → i ≡ n → Made (Upto F i) a b took gave → Made (Upto F n) a b took gave
made_all F i n a b took gave e m = subst (λ k. Made (Upto F k) a b took gave) e m

-- what holds is there on an error
pub on_err : {A E : Type 0} (P : Type 0) (r : Result A E) → P → OnErr r P
on_err P (Ok x) p = tt
on_err P (Err e) p = p

-- what holds of a value holds where there is an error
pub if_ok_never : {T E Q : Type 0} (r : Result T E) (P : T → Type 0) → IsErr r × Q → IfOk r P
if_ok_never (Ok x) P h = absurd (let e = h.0 in cc)
if_ok_never (Err x) P h = tt

-- what is there on a success, by what was
pub on_ok_by : {A E : Type 0} (P Q : Type 0) (r : Result A E) → (P → Q) → OnOk r P → OnOk r Q
on_ok_by P Q (Ok x) f p = f p
on_ok_by P Q (Err e) f p = tt
