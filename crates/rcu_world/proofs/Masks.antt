-- A mask and the list of its bits, and the board that has it
use Rattle.std.proofs.Common.{◌≡◌, ◌≢◌, ℕ, zero, suc, ◌+◌, ◌*◌, ◌/◌, ◌%◌, ◌^◌, ◌==◌, nat_lt, ◌<◌, ◌≤◌, ◌↔◌, Bool, true, false, List, [], ◌∷◌, length, replicate, get_or, set, inl, inr, refl, ap, sym, ◌∙◌, subst, arith}
use Rattle.std.specs.Int.{bit_at}
use Rattle.std.proofs.Math.Nat.{div-lt_iff_lt-mul, pow-succ'}
use Rattle.std.proofs.lemmas.Bool.{cases_Bool, cases_eq, cases_lt, eq-eqb, le-ltb, ne_eqb}
use Rattle.std.proofs.lemmas.List.{ext_get_or, get_or-replicate, get_or-set_same, get_or-set_other, get_or_past, length-replicate, length-set}
use Rattle.std.proofs.lemmas.Nat.{pow_pos, shr-shr}
use Rattle.std.proofs.lemmas.Nat.Bits.{bit_at-lt, bit_at-suc, bit_at-zero, bit_at_above, bit_at_lowest, bit_at_ones, bit_at_ones_above, same_from_bits}
use Rattle.rcu_world_law.specs.Invariant.{owed}
use Rattle.rcu_world_law.specs.Lists.{none_owes}
use Rattle.rcu_numbers.specs.Words.{Board, Owes, all_of, owes_of}
use Rattle.rcu_world.specs.Boards.{IsBoardOf, bits}

-- the mask of the processors that owe a report
abbrev pub mask_of : List Bool → ℕ
mask_of [] = 0
mask_of (b ∷ bs) = owed b + 2 * mask_of bs

pub length_bits : (n mask : ℕ) → length (bits n mask) ≡ n
length_bits zero mask = refl
length_bits (suc n) mask = ap suc (length_bits n (mask / 2))

-- place p of the list is bit p
bits_at : (n mask p : ℕ) → p < n → get_or (bits n mask) p false ≡ (bit_at mask p == 1)
bits_at zero mask p l = absurd (omega arith)
bits_at (suc n) mask zero l = ap (λ b. b == 1) (sym (bit_at_lowest mask))
bits_at (suc n) mask (suc p) l = bits_at n (mask / 2) p (omega arith) ∙ ap (λ b. b == 1) (sym (bit_at-suc mask p))

owed_bit : (b : ℕ) → b < 2 → owed (b == 1) ≡ b
owed_bit zero l = refl
owed_bit (suc zero) l = refl
owed_bit (suc (suc b)) l = absurd (omega arith)

-- the mask of n bits of a mask below 2 ^ n is the mask
pub mask_of_bits : (n mask : ℕ) → mask < 2 ^ n → mask_of (bits n mask) ≡ mask
mask_of_bits zero mask l = omega (arith, l)
mask_of_bits (suc n) mask l =
    let rest : mask_of (bits n (mask / 2)) ≡ mask / 2 = mask_of_bits n (mask / 2) (omega (arith, pow-succ' 2 n, l)) in
    omega (arith, rest, owed_bit (mask % 2) (omega arith))

doubled : (m : ℕ) → (m == 0) ≡ (0 + 2 * m == 0)
doubled m = elim (cases_eq m 0) [
  | inl e ↦ eq-eqb m 0 e ∙ sym (eq-eqb (0 + 2 * m) 0 (omega (arith, e)))
  | inr d ↦ ne_eqb m 0 d ∙ sym (ne_eqb (0 + 2 * m) 0 (λ e. d (omega (arith, e))))
]

-- none owes a report exactly where the mask is 0
pub none_owed : (bs : List Bool) → (mask_of bs == 0) ≡ none_owes bs
none_owed [] = refl
none_owed (true ∷ bs) = ne_eqb (1 + 2 * mask_of bs) 0 (λ e. omega (arith, e))
none_owed (false ∷ bs) = sym (doubled (mask_of bs)) ∙ none_owed bs

-- a mask with no bit from n on
pub mask_below : (n mask : ℕ) → mask < 2 ^ 32 → ((p : ℕ) → n ≤ p → p < 32 → owes_of mask p ≢ 1) → mask < 2 ^ n
unfolding owes_of
mask_below n mask fits none =
    let above : (i : ℕ) → bit_at (mask / 2 ^ n) i ≡ 0 = λ i.
    ap (λ m. m % 2) (shr-shr mask n i) ∙ elim (cases_lt (n + i) 32) [
      | inl l ↦ (let b = none (n + i) (omega arith) l in omega (arith, bit_at-lt mask (n + i), b))
      | inr m ↦ bit_at_above mask 32 (n + i) fits m
    ] in
    let zero_above : mask / 2 ^ n ≡ 0 = same_from_bits (mask / 2 ^ n) 0 (λ i. above i ∙ sym (bit_at-zero i)) in
    let l : mask < 1 * 2 ^ n = (div-lt_iff_lt-mul (pow_pos n)).0 (omega (arith, zero_above)) in
    omega (arith, l)

-- all n bits, and none
pub bits_all : (n : ℕ) → bits n (all_of n) ≡ replicate n true
bits_all n = ext_get_or false (bits n (all_of n)) (replicate n true) (length_bits n (all_of n) ∙ sym (length-replicate n true)) (λ p l.
    let k : p < n = omega (arith, length_bits n (all_of n), l) in
    bits_at n (all_of n) p k ∙ ap (λ b. b == 1) (bit_at_ones n p k) ∙ sym (get_or-replicate n p true false k))

pub bits_none : (n : ℕ) → bits n 0 ≡ replicate n false
bits_none zero = refl
bits_none (suc n) = ap (λ bs. false ∷ bs) (bits_none n)

-- who owes a report
pub owed_at : (n mask p : ℕ) → p < n → get_or (bits n mask) p false ≡ (owes_of mask p == 1)
unfolding owes_of
owed_at n mask p l = bits_at n mask p l

same_test : (a b : ℕ) → (a ≡ 1) ↔ (b ≡ 1) → (a == 1) ≡ (b == 1)
same_test a b s = elim (cases_eq a 1) [
  | inl e ↦ eq-eqb a 1 e ∙ sym (eq-eqb b 1 (s.0 e))
  | inr d ↦ ne_eqb a 1 d ∙ sym (ne_eqb b 1 (λ e. d (s.1 e)))
]

-- a report clears its bit alone
pub bits_cleared : (n old new p : ℕ) → n ≤ 32 → p < n → owes_of new p ≢ 1 → ((q : ℕ) → q < 32 → q ≢ p → (owes_of new q ≡ 1) ↔ (owes_of old q ≡ 1))
    → bits n new ≡ set (bits n old) p false
bits_cleared n old new p few l gone same =
    ext_get_or false (bits n new) (set (bits n old) p false) (length_bits n new ∙ sym (length-set (bits n old) p false ∙ length_bits n old)) (λ q m.
    let k : q < n = omega (arith, length_bits n new, m) in
    owed_at n new q k ∙ elim (cases_eq q p) [
      | inl e ↦ subst (λ x. (owes_of new x == 1) ≡ get_or (set (bits n old) p false) x false) (sym e)
          (ne_eqb (owes_of new p) 1 gone ∙ sym (get_or-set_same (bits n old) p false false (omega (arith, length_bits n old))))
      | inr d ↦ same_test (owes_of new q) (owes_of old q) (same q (omega arith) d) ∙ sym (owed_at n old q k) ∙ sym (get_or-set_other (bits n old) p q false false d)
    ])

-- none of a list that all have reported
all_reported : (bs : List Bool) → none_owes bs ≡ true → bs ≡ replicate (length bs) false
all_reported [] h = refl
all_reported (true ∷ bs) h = absurd cc
all_reported (false ∷ bs) h = ap (λ l. false ∷ l) (all_reported bs h)

-- a board where none owes a report, where each processor does, and after a report
pub none_board : (n seq : ℕ) → n ≤ 32 → IsBoardOf n (record { seq = seq; mask = 0 })
unfolding owes_of
none_board n seq few = record { few = few; others = λ p m l e. omega (arith, bit_at-zero p, e) }

pub all_board : (n seq : ℕ) → n ≤ 32 → IsBoardOf n (record { seq = seq; mask = all_of n })
unfolding owes_of
all_board n seq few = record { few = few; others = λ p m l e. omega (arith, bit_at_ones_above n p m, e) }

pub reported_board : (n : ℕ) (old new : Board) (p : ℕ) → IsBoardOf n old → ¬ Owes new p → ((q : ℕ) → q < 32 → q ≢ p → Owes new q ↔ Owes old q) → IsBoardOf n new
reported_board n old new p b gone same = record {
  few = b.few;
  others = λ q m l e. elim (cases_eq q p) [
    | inl f ↦ gone (subst (Owes new) f e)
    | inr d ↦ b.others q m l ((same q l d).0 e)
  ];
}

-- the mask of a board is the mask of those who owe a report
pub mask_of_board : (n : ℕ) (b : Board) → IsBoardOf n b → b.mask < 2 ^ 32 → mask_of (bits n b.mask) ≡ b.mask
mask_of_board n b i fits = mask_of_bits n b.mask (mask_below n b.mask fits i.others)

-- what a board answers of a processor that the core has, and of one that it hasn't
pub owes_there : (n : ℕ) (b : Board) (p : ℕ) (r : Bool) → p < n → (r ≡ true) ↔ Owes b p → r ≡ get_or (bits n b.mask) p false
owes_there n b p r l h = elim (cases_Bool r) [
  | inl t ↦ t ∙ sym (owed_at n b.mask p l ∙ eq-eqb (owes_of b.mask p) 1 (h.0 t))
  | inr f ↦ f ∙ sym (owed_at n b.mask p l ∙ ne_eqb (owes_of b.mask p) 1 (λ e. let x : false ≡ true = sym f ∙ h.1 e in cc))
]

pub owes_beyond : (n : ℕ) (b : Board) (p : ℕ) → n ≤ p → nat_lt p n ≡ get_or (bits n b.mask) p false
owes_beyond n b p l = le-ltb p n l ∙ sym (get_or_past (bits n b.mask) p false (omega (arith, length_bits n b.mask, l)))

-- a start, and an end
pub started : (n : ℕ) (b : Board) → bits n (all_of n) ≡ replicate (length (bits n b.mask)) true
started n b = bits_all n ∙ ap (λ k. replicate k true) (sym (length_bits n b.mask))

pub ended : (n : ℕ) (b : Board) → none_owes (bits n b.mask) ≡ true → bits n 0 ≡ bits n b.mask
ended n b h = bits_none n ∙ ap (λ k. replicate k false) (sym (length_bits n b.mask)) ∙ sym (all_reported (bits n b.mask) h)
