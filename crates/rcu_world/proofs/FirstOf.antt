-- The first of some processors that meets a test
use Rattle.std.proofs.Common.{◌≡◌, ℕ, zero, suc, ◌<◌, ◌≤◌, Bool, true, false, cond, inl, inr, refl, ap, sym, ◌∙◌, subst, arith}
use Rattle.std.proofs.lemmas.Bool.{cases_Bool}
use Rattle.rcu_world.specs.Boards.{first_of}

-- the first one, or one after it
first_step : (test : ℕ → Bool) (n : ℕ) (b : Bool) → test 0 ≡ b → first_of test (suc n) ≡ cond b 0 (suc (first_of (λ p. test (suc p)) n))
first_step test n b e = ap (λ x. cond x 0 (suc (first_of (λ p. test (suc p)) n))) e

pub first_is : (test : ℕ → Bool) (n k : ℕ) → k < n → ((q : ℕ) → q < k → test q ≡ false) → test k ≡ true → k ≡ first_of test n
first_is test zero k l none h = absurd (omega (arith, l))
first_is test (suc n) zero l none h = sym (first_step test n true h)
first_is test (suc n) (suc k) l none h = ap suc (first_is (λ p. test (suc p)) n k (omega (arith, l)) (λ q m. none (suc q) (omega (arith, m))) h)
    ∙ sym (first_step test n false (none 0 (omega arith)))

pub first_none : (test : ℕ → Bool) (n : ℕ) → ((q : ℕ) → q < n → test q ≡ false) → n ≡ first_of test n
first_none test zero none = refl
first_none test (suc n) none = ap suc (first_none (λ p. test (suc p)) n (λ q m. none (suc q) (omega (arith, m))))
    ∙ sym (first_step test n false (none 0 (omega arith)))

pub first_most : (test : ℕ → Bool) (n : ℕ) → first_of test n ≤ n
first_most test zero = omega arith
first_most test (suc n) = elim (cases_Bool (test 0)) [
  | inl t ↦ omega (arith, first_step test n true t)
  | inr f ↦ omega (arith, first_step test n false f, first_most (λ p. test (suc p)) n)
]

pub none_before : (test : ℕ → Bool) (n q : ℕ) → q < first_of test n → test q ≡ false
none_before test zero q l = absurd (omega (arith, l))
none_before test (suc n) zero l = elim (cases_Bool (test 0)) [
  | inl t ↦ absurd (omega (arith, l, first_step test n true t))
  | inr f ↦ f
]
none_before test (suc n) (suc q) l = elim (cases_Bool (test 0)) [
  | inl t ↦ absurd (omega (arith, l, first_step test n true t))
  | inr f ↦ none_before (λ p. test (suc p)) n q (omega (arith, l, first_step test n false f))
]

pub first_meets : (test : ℕ → Bool) (n : ℕ) → first_of test n < n → test (first_of test n) ≡ true
first_meets test zero l = absurd (omega (arith, l))
first_meets test (suc n) l = elim (cases_Bool (test 0)) [
  | inl t ↦ subst (λ k. test k ≡ true) (sym (first_step test n true t)) t
  | inr f ↦ subst (λ k. test k ≡ true) (sym (first_step test n false f))
      (first_meets (λ p. test (suc p)) n (omega (arith, l, first_step test n false f)))
]
