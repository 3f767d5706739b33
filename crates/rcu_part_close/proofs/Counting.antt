-- Lists that have each number below m once.
use Rattle.std.proofs.Common.{◌≡◌, ℕ, zero, suc, ◌+◌, ◌<◌, ◌==◌, cond, eq-eqb, ne_eqb, List, [], ◌∷◌, ◌++◌, length, length-append, sym, ap, ◌∙◌, arith}
use mathlib.Core.Logic.{dite}
use native.Mathlib.Decide.{ℕ_discrete}
use Rattle.std.proofs.lemmas.Bool.Decides.{nat_tests}
use Rattle.rcu_part_order.specs.Order.{is_number, times, between}
use Rattle.rcu_part_order.specs.Places.{Numbered}
use Rattle.rcu_part_order.proofs.Ordering.{counted_other, nothing_there, times-append}

-- without the first of number k
remove : ℕ → List Numbered → List Numbered
remove k [] = []
remove k (x ∷ xs) = cond (x.number == k) xs (x ∷ remove k xs)

remove_length : (k : ℕ) (xs : List Numbered) → 0 < times k xs → length xs ≡ suc (length (remove k xs))
unfolding remove
remove_length k [] h = absurd (omega arith)
remove_length k (x ∷ xs) h =
    dite (ℕ_discrete x.number k)
    (λ e. sym (ap (λ b. suc (length (cond b xs (x ∷ remove k xs)))) (eq-eqb x.number k e)))
    (λ e. let r = remove_length k xs (let z = counted_other k x e in omega arith) in
    let q : length (cond (x.number == k) xs (x ∷ remove k xs)) ≡ suc (length (remove k xs)) = ap (λ b. length (cond b xs (x ∷ remove k xs))) (ne_eqb x.number k e) in omega arith)

remove_times : (k j : ℕ) (xs : List Numbered) → 0 < times k xs → times j xs ≡ times j (remove k xs) + cond (k == j) 1 0
unfolding remove
remove_times k j [] h = absurd (omega arith)
remove_times k j (x ∷ xs) h =
    dite (ℕ_discrete x.number k)
    (λ e. let q : times j (cond (x.number == k) xs (x ∷ remove k xs)) ≡ times j xs = ap (λ b. times j (cond b xs (x ∷ remove k xs))) (eq-eqb x.number k e) in
    let z : is_number j x ≡ cond (k == j) 1 0 = ap (λ (n : ℕ). cond (n == j) 1 0) e in omega arith)
    (λ e. let r = remove_times k j xs (let z = counted_other k x e in omega arith) in
    let q : times j (cond (x.number == k) xs (x ∷ remove k xs)) ≡ is_number j x + times j (remove k xs) = ap (λ b. times j (cond b xs (x ∷ remove k xs))) (ne_eqb x.number k e) in omega arith)

between_more : (m j : ℕ) → between 0 (suc m) j ≡ between 0 m j + cond (m == j) 1 0
between_more m j = grind (arith, nat_tests)

between_last : (m : ℕ) → between 0 (suc m) m ≡ 1
between_last m = grind (arith, nat_tests)

between_zero : (j : ℕ) → between 0 0 j ≡ 0
between_zero j = grind (arith, nat_tests)

-- they are m
as_many : (m : ℕ) (xs : List Numbered) → ((j : ℕ) → times j xs ≡ between 0 m j) → length xs ≡ m
as_many zero xs h = ap length (nothing_there xs (λ j. h j ∙ between_zero j))
as_many (suc m) xs h =
    let one : times m xs ≡ 1 = h m ∙ between_last m in
    let a = remove_length m xs (omega arith) in
    let b = as_many m (remove m xs) (λ j. let r = remove_times m j xs (omega arith) in let s = between_more m j in let q = h j in omega arith) in omega arith

pub two_as_many : (m : ℕ) (own hands : List Numbered) → ((j : ℕ) → times j own + times j hands ≡ between 0 m j) → length own + length hands ≡ m
two_as_many m own hands once = let a = as_many m (own ++ hands) (λ j. times-append j own hands ∙ once j) in let b = length-append own hands in omega arith
