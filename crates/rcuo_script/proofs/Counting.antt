-- How many items pass a test, one item further along a list.
use Rattle.std.proofs.Common.{◌≡◌, ℕ, ◌+◌, ◌<◌, ◌∙◌, ◌++◌, ap, sym, subst, arith, Bool, true, false, cond, if◌then◌else◌, inl, inr, List, count_by, take, drop, get_or, length}
use Rattle.std.proofs.lemmas.Bool.{cases_Bool}
use Rattle.std.proofs.lemmas.List.{take-append-drop}
use Rattle.std.proofs.lemmas.List.Sums.{count_by_more_no, count_by_more_yes, sum_by-append}

module _ {X : Type 0} (p : X → Bool) (xs ys : List X) (i : ℕ) (c : X) (same : ys ≡ xs) (within : i < length ys) (is : c ≡ get_or ys i c) where
  within_xs : i < length xs
  within_xs = subst (λ zs. i < length zs) same within

  test-item : p (get_or xs i c) ≡ p c
  test-item = ap p (ap (λ zs. get_or zs i c) (sym same) ∙ sym is)

  pub count-no : (n : ℕ) → p c ≡ false → n ≡ count_by p (take i xs) → n ≡ count_by p (take (i + 1) xs)
  count-no n not e = e ∙ sym (count_by_more_no p xs i c within_xs (test-item ∙ not))

  pub count-yes : (n m : ℕ) → p c ≡ true → n ≡ count_by p (take i xs) → m ≡ n + 1 → m ≡ count_by p (take (i + 1) xs)
  count-yes n m is_so e more = more ∙ ap (λ k. k + 1) e ∙ sym (count_by_more_yes p xs i c within_xs (test-item ∙ is_so))

  -- where so many more pass the test than up to this item, and it passes, there is one more
  pub one_more : (n : ℕ) → p c ≡ true → n + count_by p (take i xs) ≡ count_by p xs → 0 < n
  one_more n is_so all =
      let more : count_by p (take (i + 1) xs) ≡ count_by p (take i xs) + 1 = count_by_more_yes p xs i c within_xs (test-item ∙ is_so) in
      let parts : count_by p (take (i + 1) xs ++ drop (i + 1) xs) ≡ count_by p (take (i + 1) xs) + count_by p (drop (i + 1) xs) = sum_by-append (λ x. cond (p x) 1 0) (take (i + 1) xs) (drop (i + 1) xs) in
      let whole : count_by p (take (i + 1) xs ++ drop (i + 1) xs) ≡ count_by p xs = ap (count_by p) (take-append-drop (i + 1) xs) in
      omega arith

  -- one item further, so many more pass the test as before, less this one where it passes
  pub less_one : (n m : ℕ) → m + (if p c then 1 else 0) ≡ n → n + count_by p (take i xs) ≡ count_by p xs → m + count_by p (take (i + 1) xs) ≡ count_by p xs
  less_one n m left all = elim (cases_Bool (p c)) [
    | inl is_so ↦
        let more : count_by p (take (i + 1) xs) ≡ count_by p (take i xs) + 1 = count_by_more_yes p xs i c within_xs (test-item ∙ is_so) in
        let weight : Bool → ℕ = λ b. if b then 1 else 0 in
        let one : weight (p c) ≡ 1 = ap weight is_so in
        omega (arith, more, one, left, all)
    | inr not ↦
        let unchanged : count_by p (take (i + 1) xs) ≡ count_by p (take i xs) = count_by_more_no p xs i c within_xs (test-item ∙ not) in
        let weight : Bool → ℕ = λ b. if b then 1 else 0 in
        let none : weight (p c) ≡ 0 = ap weight not in
        omega (arith, unchanged, none, left, all)
  ]
