-- The number that a callback waits for is the least whose grace period begins after the look.
use Rattle.std.proofs.Common.{◌≡◌, ℕ, ◌+◌, ◌*◌, ◌/◌, ◌%◌, ◌^◌, ◌∙◌, ap, arith, bit_or}
use lib.Bits.{or_zero_r}
use Rattle.std.proofs.lemmas.Nat.{or_block}
use Rattle.rcu_numbers.specs.Numbers.{IsSnap, snap_of}

-- the grace period that begins after s and ends first has the number 4 * ((s + 3) / 4) + 1
pub snap-least : (s : ℕ) → IsSnap s (snap_of s)
snap-least s = record {
  idle = omega arith;
  graced = ((s + 3) / 4, omega arith, omega arith);
  least = λ m g. omega (arith, g.1, g.2);
}

-- (s | 3) + 1 is the next idle number
pub or_three : (s : ℕ) → s % 4 ≡ 1 → bit_or s 3 ≡ s + 2
or_three s e =
    let parts : s ≡ s / 4 * 2 ^ 2 + 1 = omega arith in
    let joined : bit_or (s / 4 * 2 ^ 2 + 1) (0 * 2 ^ 2 + 3) ≡ bit_or (s / 4) 0 * 2 ^ 2 + bit_or 1 3 = or_block 2 (s / 4) 0 1 3 (omega arith) (omega arith) in
    ap (λ x. bit_or x 3) parts ∙ joined ∙ omega (arith, or_zero_r (s / 4))
