-- A number has one whole square root.
use Rattle.std.proofs.Common.{◌≡◌, ℕ, ◌+◌, ◌<◌, arith, inl, inr}
use Rattle.std.proofs.lemmas.Bool.{cases_order}
use Rattle.std.proofs.lemmas.Nat.{mul-le}
use Rattle.rcu_numbers.specs.Limits.{IsWholeRoot}

no_less : (n r s : ℕ) → IsWholeRoot n r → IsWholeRoot n s → r < s → ⊥
no_less n r s a b h = omega (arith, mul-le (r + 1) (r + 1) s s (omega arith) (omega arith), a.above, b.below)

pub one_root : (n r s : ℕ) → IsWholeRoot n r → IsWholeRoot n s → r ≡ s
one_root n r s a b = elim (cases_order r s) [
  | inl e ↦ e
  | inr o ↦ elim o [ inl l ↦ absurd (no_less n r s a b l) | inr g ↦ absurd (no_less n s r b a g) ]
]
