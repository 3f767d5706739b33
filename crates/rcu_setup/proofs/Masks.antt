-- The bits of the mask that a list gives.
use Rattle.std.proofs.Common.{◌≡◌, ℕ, ◌+◌, ◌-◌, ◌^◌, ◌≤◌, ◌<◌, ◌⊎◌, inl, inr, ◌↔◌, false, nat_lt, nat_le, ◌==◌, List, [], ◌∷◌, length, Option, Some, None, Result, Ok, bit_or, refl, subst, eqb, sym, ◌∙◌, arith, codes}
use Rattle.std.specs.Int.{bit_at}
use Rattle.std.proofs.lemmas.Bool.Decides.{nat_tests}
use Rattle.std.specs.Str.{bytes_eq}
use Rattle.std.proofs.lemmas.Slice.Eq.{bytes_eq-Decides}
use Rattle.rcu_setup.specs.Words.{parts, number}
use Rattle.std.proofs.lemmas.Bool.{false≢true, cases_Bool, ltb-false, ltb-true, leb-false}
use Rattle.std.proofs.lemmas.Nat.Bits.{bit_at_or, bit_at-lt, bit_at-zero, bit_at_ones, bit_at_ones_above, bit_at_mask_inside, bit_at_mask_below, bit_at_mask_above}
use Rattle.std.proofs.lemmas.Nat.{or_lt, pow_pos}
use Rattle.std.proofs.Math.Pow.{pow_mono}
use Rattle.rcu_setup.specs.Faults.{Fault, ◌>>◌}
use Rattle.rcu_setup.specs.List.{Range, range_of, with_range, with_range_at, with_parts, ones, IsListed, IsNamed, are_items, cpu_list_of}

-- one more range
bits-range : (mask : ℕ) (r : Range) (p : ℕ) → (bit_at (bit_or mask (ones r)) p ≡ 1) ↔ ((bit_at mask p ≡ 1) ⊎ ((r.0 ≤ p) × (p ≤ r.1)))
bits-range mask r p =
    let small = bit_at-lt mask p in
    let or = bit_at_or mask (ones r) p in
    elim (cases_Bool (nat_lt p r.0)) [
      | inl e ↦
          let below = ltb-true p r.0 e in
          let none = bit_at_mask_below r.0 (r.1 + 1) p below in
          ((λ h. inl (omega (arith, or, none, h))), (λ h. elim h [ inl k ↦ omega (arith, or, none, k) | inr k ↦ absurd (omega (arith, k.0, below)) ]))
      | inr e ↦
          let from = ltb-false p r.0 e in
          elim (cases_Bool (nat_lt r.1 p)) [
            | inl f ↦
                let past = ltb-true r.1 p f in
                let none = bit_at_mask_above r.0 (r.1 + 1) p (omega arith) in
                ((λ h. inl (omega (arith, or, none, h))), (λ h. elim h [ inl k ↦ omega (arith, or, none, k) | inr k ↦ absurd (omega (arith, k.1, past)) ]))
            | inr f ↦
                let to = ltb-false r.1 p f in
                let one = bit_at_mask_inside r.0 (r.1 + 1) p from (omega arith) in
                ((λ h. inr (from, to)), (λ h. omega (arith, or, one, small)))
          ]
    ]

-- a step that is no fault
with_range_ok : (n mask : ℕ) (o : Option Range) (rest : ℕ → Result ℕ Fault) (m : ℕ) → (with_range_at n mask o >> rest) ≡ Ok m → (r : Range) × (o ≡ Some r) × (rest (bit_or mask (ones r)) ≡ Ok m) × (r.1 < n)
unfolding with_range
with_range_ok n mask None rest m e = cc
with_range_ok n mask (Some r) rest m e =
    elim (cases_Bool (nat_lt r.1 r.0)) [
      | inl f ↦ let bad = rw f at e in cc
      | inr f ↦ elim (cases_Bool (nat_le n r.1)) [
        | inl g ↦ let bad = rw (f, g) at e in cc
        | inr g ↦ (r, refl, rw (f, g) at e, leb-false n r.1 g)
      ]
    ]

pub bits-parts : (n mask : ℕ) (ps : List (List ℕ)) (m : ℕ) → with_parts n mask ps ≡ Ok m → (p : ℕ) → (bit_at m p ≡ 1) ↔ ((bit_at mask p ≡ 1) ⊎ IsListed p ps)
bits-parts n mask [] m e p =
    let same : mask ≡ m = cc in
    ((λ h. inl (rw same h)), (λ h. elim h [ inl k ↦ rw (← same) k | inr k ↦ absurd k ]))
bits-parts n mask (part ∷ more) m e p =
    let step = with_range_ok n mask (range_of part) (λ wider. with_parts n wider more) m e in
    let one = bits-range mask step.0 p in
    let rest = bits-parts n (bit_or mask (ones step.0)) more m step.2 p in (
      (λ h. elim (rest.0 h) [ inl k ↦ elim (one.0 k) [ inl a ↦ inl a | inr b ↦ inr (inl (rw step.1 b)) ] | inr k ↦ inr (inr k) ]),
      (λ h. elim h [
        | inl k ↦ rest.1 (inl (one.1 (inl k)))
        | inr k ↦ elim k [ inl b ↦ rest.1 (inl (one.1 (inr (rw step.1 at b)))) | inr l ↦ rest.1 (inr l) ]
      ]),
    )

-- one more range below n keeps a mask below 2 ^ n
below-range : (n mask : ℕ) (r : Range) → mask < 2 ^ n → r.1 < n → bit_or mask (ones r) < 2 ^ n
below-range n mask r small inside =
    let top : 2 ^ (r.1 + 1) ≤ 2 ^ n = pow_mono (omega arith) in
    let low : 1 ≤ 2 ^ r.0 = pow_pos r.0 in
    let some : 1 ≤ 2 ^ n = pow_pos n in
    or_lt n mask (ones r) small (omega (arith, top, low, some))

below-parts : (n mask : ℕ) (ps : List (List ℕ)) (m : ℕ) → mask < 2 ^ n → with_parts n mask ps ≡ Ok m → m < 2 ^ n
below-parts n mask [] m small e = let same : mask ≡ m = cc in rw (← same) small
below-parts n mask (part ∷ more) m small e =
    let step = with_range_ok n mask (range_of part) (λ wider. with_parts n wider more) m e in
    below-parts n (bit_or mask (ones step.0)) more m (below-range n mask step.0 small step.3) step.2

none_listed_empty : (p : ℕ) → IsListed p (parts 44 []) → ⊥
unfolding range_of number
none_listed_empty p h = elim h [ inl k ↦ k | inr k ↦ k ]

none_listed_all : (p : ℕ) → IsListed p (parts 44 (codes "all")) → ⊥
unfolding range_of number
none_listed_all p h = elim h [ inl k ↦ k | inr k ↦ k ]

bits-all : (n m p : ℕ) → 2 ^ n - 1 ≡ m → (bit_at m p ≡ 1) ↔ IsNamed n (codes "all") p
bits-all n m p e =
    elim (cases_Bool (nat_lt p n)) [
      | inl f ↦
          let low = ltb-true p n f in
          ((λ h. inl (refl, low)), (λ h. rw (← e) (bit_at_ones n p low)))
      | inr f ↦
          let high = ltb-false p n f in
          let zero_bit : bit_at m p ≡ 0 = rw (← e) (bit_at_ones_above n p high) in
          ((λ h. absurd (omega (arith, zero_bit, h))), (λ h. elim h [ inl k ↦ absurd (omega (arith, k.1, high)) | inr k ↦ absurd (none_listed_all p k) ]))
    ]

bits-items : (n m p : ℕ) (text : List ℕ) → (text ≡ codes "all" → ⊥) → with_parts n 0 (parts 44 text) ≡ Ok m → (bit_at m p ≡ 1) ↔ IsNamed n text p
bits-items n m p text other e =
    let all = bits-parts n 0 (parts 44 text) m e p in
    let zero_bit = bit_at-zero p in (
      (λ h. elim (all.0 h) [ inl k ↦ absurd (omega (arith, zero_bit, k)) | inr k ↦ inr k ]),
      (λ h. elim h [ inl k ↦ absurd (other k.0) | inr k ↦ all.1 (inr k) ]),
    )

pub bits-list : (n m : ℕ) (text : List ℕ) → cpu_list_of n text ≡ Ok m → (p : ℕ) → (bit_at m p ≡ 1) ↔ IsNamed n text p
bits-list n m [] e p =
    let same : 0 ≡ m = cc in
    let zero_bit : bit_at m p ≡ 0 = rw (← same) (bit_at-zero p) in
    ((λ h. absurd (omega (arith, zero_bit, h))), (λ h. elim h [ inl k ↦ let bad = k.0 in cc | inr k ↦ absurd (none_listed_empty p k) ]))
bits-list n m (b ∷ bs) e p =
    let some : eqb (length (b ∷ bs)) 0 ≡ false = grind (arith, nat_tests) in
    elim (cases_Bool (bytes_eq (b ∷ bs) (codes "all"))) [
      | inl f ↦
          let is_all = (bytes_eq-Decides (b ∷ bs) (codes "all")).0 f in
          let g = rw (some, f) at e in
          let same : 2 ^ n - 1 ≡ m = cc in
          subst (λ (t : List ℕ). (bit_at m p ≡ 1) ↔ IsNamed n t p) (sym is_all) (bits-all n m p same)
      | inr f ↦ elim (cases_Bool (are_items (b ∷ bs))) [
        | inl g ↦ bits-items n m p (b ∷ bs) (λ is_all. let t = (bytes_eq-Decides (b ∷ bs) (codes "all")).1 is_all in absurd (false≢true (sym f ∙ t))) (rw (some, f, g) at e)
        | inr g ↦ let bad = rw (some, f, g) at e in cc
      ]
    ]

-- the mask has no bit at place n or above
pub below-list : (n m : ℕ) (text : List ℕ) → cpu_list_of n text ≡ Ok m → m < 2 ^ n
below-list n m text e =
    let some : 1 ≤ 2 ^ n = pow_pos n in
    elim (cases_Bool (length text == 0)) [
      | inl none ↦ let f = rw none at e in let same : 0 ≡ m = cc in omega (arith, some, same)
      | inr more ↦ elim (cases_Bool (bytes_eq text (codes "all"))) [
        | inl f ↦ let g = rw (more, f) at e in let same : 2 ^ n - 1 ≡ m = cc in omega (arith, some, same)
        | inr f ↦ elim (cases_Bool (are_items text)) [
          | inl g ↦ below-parts n 0 (parts 44 text) m (omega (arith, some)) (rw (more, f, g) at e)
          | inr g ↦ let bad = rw (more, f, g) at e in cc
        ]
      ]
    ]
