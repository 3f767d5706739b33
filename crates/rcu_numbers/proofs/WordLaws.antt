-- The laws of the board's word.
use Rattle.std.proofs.Common.{◌≡◌, ℕ, ◌+◌, ◌/◌, ◌%◌, ◌^◌, ◌<◌, ◌≤◌, ◌≢◌, sym, ap, ◌∙◌, arith, w64, pow_mono}
use Rattle.std.proofs.lemmas.Nat.Bits.{bit_at_clear_same, bit_at_clear_other, bit_at_cat_low, bit_at_ones, bit_at-zero, same_from_bits_below, bit_at-lt}
use Rattle.std.proofs.lemmas.Nat.{and_le_l, shr-shr}
use Rattle.std.specs.Prelude.{bit_and}
use Rattle.std.specs.Int.{bit_at}
use Rattle.rcu_numbers.specs.Words.{number_of, mask_of, packed, owes_of, all_of, all_but_of}

pub number-packed : (s m : ℕ) → m < 4294967296 → number_of (packed s m) ≡ s
number-packed s m h = omega arith

pub mask-packed : (s m : ℕ) → m < 4294967296 → mask_of (packed s m) ≡ m
mask-packed s m h = omega arith

pub owes-lt : (x p : ℕ) → owes_of x p < 2
unfolding owes_of
owes-lt x p = bit_at-lt x p

-- the mask alone says who owes
pub owes-packed : (s m p : ℕ) → p < 32 → owes_of (packed s m) p ≡ owes_of m p
unfolding owes_of
owes-packed s m p h = bit_at_cat_low s 32 m p h

pub owes-mask : (x p : ℕ) → p < 32 → owes_of (mask_of x) p ≡ owes_of x p
owes-mask x p h = let e : packed (number_of x) (mask_of x) ≡ x = omega arith in
    sym (owes-packed (number_of x) (mask_of x) p h) ∙ ap (λ y. owes_of y p) e

pub owes-none : (s p : ℕ) → p < 32 → owes_of (packed s 0) p ≡ 0
unfolding owes_of
owes-none s p h = bit_at_cat_low s 32 0 p h ∙ bit_at-zero p

pub owes-all_of : (n p : ℕ) → p < n → owes_of (all_of n) p ≡ 1
unfolding owes_of
owes-all_of n p h = bit_at_ones n p h

pub owes-all : (s n p : ℕ) → p < n → n ≤ 32 → owes_of (packed s (all_of n)) p ≡ 1
owes-all s n p h k = owes-packed s (all_of n) p (omega arith) ∙ owes-all_of n p h

pub clear_same : (x p : ℕ) → p < 32 → owes_of (bit_and x (all_but_of p)) p ≡ 0
unfolding owes_of all_but_of
clear_same x p h = bit_at_clear_same w64 x p (omega arith)

pub clear_other : (x p q : ℕ) → p < 32 → q < 32 → q ≢ p → owes_of (bit_and x (all_but_of p)) q ≡ owes_of x q
unfolding owes_of all_but_of
clear_other x p q h k n = bit_at_clear_other w64 x p (omega arith) q (omega arith) n

-- clearing a bit of the mask leaves the number
pub clear_number : (x p : ℕ) → p < 32 → x < 18446744073709551616 → number_of (bit_and x (all_but_of p)) ≡ number_of x
unfolding all_but_of
clear_number x p h small = let left : ℕ = bit_and x (all_but_of p) in let le : left ≤ x = and_le_l x (all_but_of p) in
    let high : (y i : ℕ) → bit_at (y / 2 ^ 32) i ≡ bit_at y (32 + i) = λ y i. ap (λ z. z % 2) (shr-shr y 32 i) in
    same_from_bits_below 32 (left / 2 ^ 32) (x / 2 ^ 32) (omega arith) (omega arith)
    (λ i l. high left i ∙ bit_at_clear_other w64 x p (omega arith) (32 + i) (omega arith) (λ e. omega arith) ∙ sym (high x i))

pub clear_fits : (x p : ℕ) → bit_and x (all_but_of p) ≤ x
clear_fits x p = and_le_l x (all_but_of p)

pub all_fits : (n : ℕ) → n ≤ 32 → all_of n < 4294967296
all_fits n h = let p : 2 ^ n ≤ 2 ^ 32 = pow_mono h in omega (arith, p)
