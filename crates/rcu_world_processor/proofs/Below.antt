-- Numbers below s, in a list of two numbers at most that don't fall
use Rattle.std.proofs.Common.{◌≡◌, ℕ, ◌+◌, ◌<◌, ◌≤◌, false, cond, List, [], ◌∷◌, inl, inr, refl, ap, sym, ◌∙◌, arith}
use Rattle.std.specs.Prelude.{◌==◌, nat_lt, count_by}
use Rattle.std.proofs.lemmas.Bool.{cases_Bool, cases_eq, eq-eqb, ne_eqb, lt-ltb, le-ltb}
use Rattle.std.proofs.lemmas.List.Sums.{sum_by-cons}
use Rattle.rcu_lists.specs.Labels.{Numbered, with_number}

unfoldable pub below : ℕ → List ℕ → ℕ
below s ns = count_by (λ n. nat_lt n s) ns

pub below_cons : (s n : ℕ) (ns : List ℕ) → count_by (λ n. nat_lt n s) (n ∷ ns) ≡ cond (nat_lt n s) 1 0 + count_by (λ n. nat_lt n s) ns
below_cons s n ns = sum_by-cons (λ k. cond (nat_lt k s) 1 0) n ns

pub with_twice : (n : ℕ) (ns : List ℕ) → with_number (Numbered n) (with_number (Numbered n) ns) ≡ with_number (Numbered n) ns
with_twice n [] = rw (eq-eqb n n refl)
with_twice n (m ∷ ms) = elim (cases_Bool (n == m)) [ inl e ↦ simp e | inr e ↦ simp (e, eq-eqb n n refl) ]

pub with_two : (m n : ℕ) (ns : List ℕ) → (m ≡ n → ⊥) → with_number (Numbered m) (with_number (Numbered n) ns) ≡ m ∷ with_number (Numbered n) ns
with_two m n [] d = rw (ne_eqb m n d) refl
with_two m n (k ∷ ns) d = elim (cases_eq n k) [
  | inl e ↦ rw (eq-eqb n k e) (rw (ne_eqb m k (λ f. d (f ∙ sym e))) refl)
  | inr e ↦ rw (ne_eqb n k e) (rw (ne_eqb m n d) refl)
]

pub none_below : (s n : ℕ) (ns : List ℕ) → s ≤ n → below s ns ≡ 0 → below s (with_number (Numbered n) ns) ≡ 0
unfolding below
none_below s n [] l h = below_cons s n [] ∙ rw (le-ltb n s l) refl
none_below s n (k ∷ ns) l h = elim (cases_Bool (n == k)) [
  | inl e ↦ rw e h
  | inr e ↦ rw e (below_cons s n (k ∷ ns) ∙ rw (le-ltb n s l) (ap (λ j. 0 + j) h))
]

pub some_below : (s n : ℕ) (ns : List ℕ) → n < s → 1 ≤ below s (with_number (Numbered n) ns)
unfolding below
some_below s n [] l = let e = below_cons s n [] in let f = lt-ltb n s l in rw e (rw f (omega arith))
some_below s n (k ∷ ns) l = elim (cases_eq n k) [
  | inl q ↦ rw (eq-eqb n k q) (let e = below_cons s k ns in let f = lt-ltb k s (omega arith) in rw e (rw f (omega arith)))
  | inr d ↦ rw (ne_eqb n k d) (let e = below_cons s n (k ∷ ns) in let f = lt-ltb n s l in rw e (rw f (omega arith)))
]

pub one_below : (s m : ℕ) → m < s → nat_lt 1 (below s (m ∷ [])) ≡ false
unfolding below
one_below s m l = rw (below_cons s m [], lt-ltb m s l) refl
