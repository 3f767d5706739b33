-- Digits and numbers.
use Rattle.std.proofs.Common.{◌≡◌, ℕ, ◌<◌, ◌≤◌, ◌^◌, ◌&&◌, List, [], ◌∷◌, length, true, nat_lt, nat_le, Result, Ok, Some, refl, ap, arith, inl, inr}
use Rattle.std.specs.List.{list_all}
use Rattle.std.specs.Result.{result_ok}
use Rattle.std.specs.Char.{is_ascii_digit}
use Rattle.std.specs.Str.{all_ascii_digits}
use Rattle.std.specs.Str.Parse.{digits_value, ParsesUnsigned}
use Rattle.std.proofs.lemmas.Str.Parse.{IsNumeralModel, tells_all_ascii_digits, numerals_by_value, digits_value_short, parse_gives}
use Rattle.std.proofs.lemmas.Bool.Decides.{nat_tests}
use Rattle.std.proofs.lemmas.Bool.{cases_Bool, and_parts, leb-true}
use Rattle.rcu_setup.specs.Words.{number}

pub all_ascii_digits_is : (text : List ℕ) → all_ascii_digits text ≡ list_all is_ascii_digit text
all_ascii_digits_is [] = refl
all_ascii_digits_is (c ∷ cs) = ap (λ b. is_ascii_digit c && b) (all_ascii_digits_is cs)

-- std's words are a model of numerals
model : IsNumeralModel (λ ds. all_ascii_digits ds ≡ true) (digits_value 10)
model = numerals_by_value _ tells_all_ascii_digits

pub digits_value_below : (ds : List ℕ) (k : ℕ) → all_ascii_digits ds ≡ true → length ds ≤ k → digits_value 10 ds < 10 ^ k
digits_value_below ds k p h = digits_value_short model ds k p h

-- what `parse` gives is the number
pub number_parsed : {E : Type 0} (most : ℕ) (text : List ℕ) (r : Result ℕ E) → ParsesUnsigned 64 10 text r → 0 < length text → length text ≤ most → most ≤ 18 → all_ascii_digits text ≡ true → result_ok r ≡ number most text
unfolding number
number_parsed most text r h some short bound digits =
    let small : digits_value 10 text < 10 ^ 18 = digits_value_below text 18 digits (omega arith) in
    let e : r ≡ Ok (digits_value 10 text) = parse_gives model 64 text r h digits some (omega arith) in
    rw (e, digits) (grind (arith, nat_tests))

number_below : (most n : ℕ) (text : List ℕ) → number most text ≡ Some n → n < 10 ^ most
unfolding number
number_below most n text e =
    elim (cases_Bool ((nat_lt 0 (length text) && nat_le (length text) most) && all_ascii_digits text)) [
      | inl t ↦
          let tests = and_parts _ _ t in
          let bound = leb-true _ _ (and_parts _ _ tests.0).1 in
          let small = digits_value_below text most tests.1 bound in
          let value = rw t at e in
          let same : digits_value 10 text ≡ n = cc in
          rw (← same) small
      | inr f ↦ let none = rw f at e in cc
    ]

-- a HOP fits in 32 bits
pub hop_small : (n : ℕ) (text : List ℕ) → number 9 text ≡ Some n → n < 4294967296
hop_small n text e = omega (arith, number_below 9 n text e)
