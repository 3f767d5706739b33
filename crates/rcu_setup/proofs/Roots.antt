-- The whole square root of the definitions is one.
use Rattle.std.proofs.Common.{ℕ, ◌+◌, ◌*◌, nat_le, zero, suc, arith, inl, inr}
use Rattle.std.proofs.lemmas.Bool.{cases_Bool, leb-true, leb-false}
use Rattle.rcu_numbers.specs.Limits.{IsWholeRoot}
use Rattle.rcu_setup.specs.Numbers.{whole_root}

pub is_whole_root : (n : ℕ) → IsWholeRoot n (whole_root n)
is_whole_root zero = record { below = omega arith; above = omega arith }
is_whole_root (suc n) =
    let before = is_whole_root n in
    elim (cases_Bool (nat_le ((whole_root n + 1) * (whole_root n + 1)) (suc n))) [
      | inl e ↦ rw e (record { below = leb-true _ _ e; above = omega (arith, before.above) })
      | inr e ↦ rw e (record { below = omega (arith, before.below); above = omega (arith, leb-false _ _ e) })
    ]
