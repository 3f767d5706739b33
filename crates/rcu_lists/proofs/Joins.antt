-- A list that other callbacks joined, or that stayed as it was.
use Rattle.std.proofs.Common.{◌≡◌, ◌++◌, ◌∙◌, Bool, true, false, List, ap, length, refl, sym, subst, arith, length-append}
use Rattle.rcu_jobs.specs.declared.callback.Callback.{Callback}
use Rattle.rcu_lists.specs.Bounds.{cut_by, IsWithin}
use Rattle.rcu_lists.specs.Labels.{IsGraced}
use Rattle.rcu_lists.specs.declared.bounds.Bounds.{Bounds}
use Rattle.rcu_lists.proofs.Cuts.{cut-join}
use Rattle.rcu_lists.proofs.Graced.{graced-join, graced-same}

module _ {J : Type 0} where
  pub joined-within : (r : Bool) (b : Bounds) (old new cs : List (Callback J)) → (r ≡ true → new ≡ old ++ cs) → (r ≡ false → new ≡ old) → IsWithin b old → IsWithin b new
  joined-within true b old new cs t f h = let more = ap length (t refl) ∙ length-append old cs in omega (arith, h)
  joined-within false b old new cs t f h = subst (IsWithin b) (sym (f refl)) h

  pub joined-graced : (r : Bool) (b : Bounds) (old new cs : List (Callback J)) → (r ≡ true → new ≡ old ++ cs) → (r ≡ false → new ≡ old) → IsWithin b old → IsGraced b.advanced (cut_by b old) → IsGraced b.advanced (cut_by b new)
  joined-graced true b old new cs t f h g = graced-same b.advanced (cut_by b new) _ (ap (cut_by b) (t refl) ∙ cut-join b.wait_number b.ready_number b.done b.wait b.ready old cs h) (graced-join b.advanced (cut_by b old) cs g)
  joined-graced false b old new cs t f h g = graced-same b.advanced (cut_by b new) (cut_by b old) (ap (cut_by b) (f refl)) g
