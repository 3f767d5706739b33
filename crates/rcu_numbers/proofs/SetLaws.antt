-- The bits of a set are those of its words.
use Rattle.std.proofs.Common.{◌≡◌, ◌≢◌, ℕ, suc, ◌+◌, ◌-◌, ◌*◌, ◌/◌, ◌%◌, ◌^◌, ◌<◌, ◌≤◌, List, [], ◌∷◌, length, get_or, set, get_or-set_same, get_or-set_other, inl, inr, sym, ap, ◌∙◌, subst, arith, w64}
use mathlib.Core.Logic.{dite}
use native.Mathlib.Decide.{ℕ_discrete}
use Rattle.std.specs.Prelude.{bit_or}
use Rattle.std.specs.Int.{bit_at}
use Rattle.std.proofs.lemmas.Bool.{cases_order}
use Rattle.std.proofs.lemmas.List.{get_or_past}
use Rattle.std.proofs.lemmas.Nat.{shr_split, mod_below, pow_pos}
use Rattle.std.proofs.lemmas.Nat.Bits.{bit_at-zero, bit_at-lt, bit_at_cat_low, bit_at_cat_high, bit_at_set_same, bit_at_set_other, bit_at_above, bit_at_ones, bit_at_ones_above, same_from_bits}
use Rattle.rcu_numbers.specs.Words.{all_of, owes_of}
use Rattle.rcu_numbers.specs.Sets.{number_of_words}

low_bits : (w p : ℕ) → p < 64 → bit_at (w % 18446744073709551616) p ≡ bit_at w p
low_bits w p near = sym (bit_at_cat_low (w / 18446744073709551616) 64 (w % 18446744073709551616) p near) ∙ ap (λ (y : ℕ). bit_at y p) (shr_split w 64)

bit_in_rest : (ws : List ℕ) (w p : ℕ) → 64 ≤ p → bit_at (number_of_words ws) (p - 64) ≡ bit_at (get_or ws ((p - 64) / 64) 0) ((p - 64) % 64) → bit_at (number_of_words (w ∷ ws)) p ≡ bit_at (get_or (w ∷ ws) (p / 64) 0) (p % 64)
unfolding number_of_words
bit_in_rest ws w p far rest =
    let next : p / 64 ≡ suc ((p - 64) / 64) = omega arith in let same : (p - 64) % 64 ≡ p % 64 = omega arith in
    bit_at_cat_high (number_of_words ws) 64 (w % 18446744073709551616) p (mod_below w 18446744073709551616 (omega arith)) far ∙ rest ∙ ap (bit_at (get_or ws ((p - 64) / 64) 0)) same
    ∙ ap (λ (k : ℕ). bit_at (get_or (w ∷ ws) k 0) (p % 64)) (sym next)

bit_in_first : (ws : List ℕ) (w p : ℕ) → p < 64 → bit_at (number_of_words (w ∷ ws)) p ≡ bit_at (get_or (w ∷ ws) (p / 64) 0) (p % 64)
unfolding number_of_words
bit_in_first ws w p near =
    let here : p / 64 ≡ 0 = omega arith in let same : p % 64 ≡ p = omega arith in
    bit_at_cat_low (number_of_words ws) 64 (w % 18446744073709551616) p near ∙ low_bits w p near ∙ ap (bit_at w) (sym same) ∙ ap (λ (k : ℕ). bit_at (get_or (w ∷ ws) k 0) (p % 64)) (sym here)

bits_of : (ws : List ℕ) (p : ℕ) → bit_at (number_of_words ws) p ≡ bit_at (get_or ws (p / 64) 0) (p % 64)
unfolding number_of_words
bits_of [] p = bit_at-zero p ∙ sym (ap (λ (x : ℕ). bit_at x (p % 64)) (get_or_past {X = ℕ} [] (p / 64) 0 (omega arith)) ∙ bit_at-zero (p % 64))
bits_of (w ∷ ws) p = elim (cases_order p 64) [
  | inl e ↦ bit_in_rest ws w p (omega (arith, e)) (bits_of ws (p - 64))
  | inr o ↦ elim o [
    | inl l ↦ bit_in_first ws w p l
    | inr g ↦ bit_in_rest ws w p (omega (arith, g)) (bits_of ws (p - 64))
  ]
]

-- whether a processor is in a set is said by one bit of one word
pub owes-words : (ws : List ℕ) (p : ℕ) → owes_of (number_of_words ws) p ≡ owes_of (get_or ws (p / 64) 0) (p % 64)
unfolding owes_of
owes-words ws p = bits_of ws p

module _ (ws : List ℕ) (p : ℕ) (long : p / 64 < length ws) where
  abbrev pub more : ℕ
  more = bit_or (get_or ws (p / 64) 0) (1 * 2 ^ (p % 64) % 18446744073709551616)

  pub added_bit : owes_of (number_of_words (set ws (p / 64) more)) p ≡ 1
  unfolding owes_of
  added_bit = bits_of (set ws (p / 64) more) p ∙ ap (λ (x : ℕ). bit_at x (p % 64)) (get_or-set_same ws (p / 64) more 0 long)
      ∙ bit_at_set_same w64 (get_or ws (p / 64) 0) (p % 64) (omega arith)

  same_word : (q : ℕ) → q ≢ p → q / 64 ≡ p / 64 → bit_at (get_or (set ws (p / 64) more) (q / 64) 0) (q % 64) ≡ bit_at (get_or ws (q / 64) 0) (q % 64)
  same_word q ne e = ap (λ (k : ℕ). bit_at (get_or (set ws (p / 64) more) k 0) (q % 64)) e
      ∙ ap (λ (x : ℕ). bit_at x (q % 64)) (get_or-set_same ws (p / 64) more 0 long)
      ∙ bit_at_set_other w64 (get_or ws (p / 64) 0) (p % 64) (omega arith) (q % 64) (λ s. ne (omega (arith, s, e)))
      ∙ ap (λ (k : ℕ). bit_at (get_or ws k 0) (q % 64)) (sym e)

  pub other_bits : (q : ℕ) → q ≢ p → owes_of (number_of_words (set ws (p / 64) more)) q ≡ owes_of (number_of_words ws) q
  unfolding owes_of
  other_bits q ne = bits_of (set ws (p / 64) more) q ∙ dite (ℕ_discrete (q / 64) (p / 64)) (same_word q ne)
      (λ far. ap (λ (x : ℕ). bit_at x (q % 64)) (get_or-set_other ws (p / 64) (q / 64) more 0 far)) ∙ sym (bits_of ws q)

-- ---- sets of the first processors

owes-or_not : (x p : ℕ) → (owes_of x p ≡ 1 → ⊥) → owes_of x p ≡ 0
unfolding owes_of
owes-or_not x p not = let small = bit_at-lt x p in dite (ℕ_discrete (bit_at x p) 1) (λ e. absurd (not e)) (λ ne. omega (arith, small, ne))

-- a set has no processor from n on
pub below : (x n : ℕ) → ((p : ℕ) → n ≤ p → owes_of x p ≡ 1 → ⊥) → x < 2 ^ n
unfolding owes_of
below x n none =
    let part : x % 2 ^ n < 2 ^ n = mod_below x (2 ^ n) (pow_pos n) in
    let is : x ≡ x % 2 ^ n = same_from_bits x (x % 2 ^ n) (λ i. elim (cases_order i n) [
      | inl e ↦ high i (omega (arith, e)) part
      | inr o ↦ elim o [ inl l ↦ low i l | inr g ↦ high i (omega (arith, g)) part ]
    ]) in subst (λ (y : ℕ). y < 2 ^ n) (sym is) part
  where
    low : (i : ℕ) → i < n → bit_at x i ≡ bit_at (x % 2 ^ n) i
    low i l = ap (λ (y : ℕ). bit_at y i) (sym (shr_split x n)) ∙ bit_at_cat_low (x / 2 ^ n) n (x % 2 ^ n) i l

    high : (i : ℕ) → n ≤ i → x % 2 ^ n < 2 ^ n → bit_at x i ≡ bit_at (x % 2 ^ n) i
    high i g part = owes-or_not x i (none i g) ∙ sym (bit_at_above (x % 2 ^ n) n i part g)

pub none_from : (x n p : ℕ) → x < 2 ^ n → n ≤ p → owes_of x p ≡ 1 → ⊥
unfolding owes_of
none_from x n p small far is = let none = bit_at_above x n p small far in omega (arith, is, none)

-- a set has no processor that none of its words has a bit for
pub none_past : (ws : List ℕ) (p : ℕ) → length ws ≤ p / 64 → owes_of (number_of_words ws) p ≡ 1 → ⊥
unfolding owes_of
none_past ws p far is = let none : bit_at (number_of_words ws) p ≡ 0 = bits_of ws p ∙ ap (λ (x : ℕ). bit_at x (p % 64)) (get_or_past ws (p / 64) 0 far) ∙ bit_at-zero (p % 64) in omega (arith, is, none)

-- one processor more
pub first_next : (x y n : ℕ) → x ≡ all_of n → owes_of y n ≡ 1 → ((q : ℕ) → q ≢ n → owes_of y q ≡ owes_of x q) → y ≡ all_of (n + 1)
unfolding owes_of
first_next x y n is one others = same_from_bits y (all_of (n + 1)) (λ i. dite (ℕ_discrete i n)
    (λ e. ap (bit_at y) e ∙ one ∙ sym (bit_at_ones (n + 1) n (omega arith)) ∙ ap (bit_at (all_of (n + 1))) (sym e))
    (λ ne. others i ne ∙ ap (λ (z : ℕ). bit_at z i) is ∙ elim (cases_order i n) [
      | inl e ↦ absurd (ne e)
      | inr o ↦ elim o [
        | inl l ↦ bit_at_ones n i l ∙ sym (bit_at_ones (n + 1) i (omega (arith, l)))
        | inr g ↦ bit_at_ones_above n i (omega (arith, g)) ∙ sym (bit_at_ones_above (n + 1) i (omega (arith, g)))
      ]
    ]))
