-- What the tests keep of the lists that they drive.
use Rattle.std.proofs.Common.{◌≡◌, ℕ, ◌+◌, ◌<◌, List, [], ◌∷◌, ◌++◌, length, length-append, ap, sym, ◌∙◌, subst, arith}
use Rattle.std.proofs.lemmas.List.Elements.{All-cons, All-head, All-nil, All-push, All-tail, All-weaker}
use Rattle.rcu_jobs.specs.declared.callback.Callback.{Callback}
use Rattle.rcu_part_lists.specs.Limits.{AreBelow}

module _ {J : Type 0} where
  -- what is below a number up to some place of a list
  pub below-before : (n : ℕ) (xs ys : List (Callback J)) → AreBelow n (xs ++ ys) → AreBelow n xs
  below-before n [] ys a = All-nil (λ (c : Callback J). c.number < n)
  below-before n (x ∷ xs) ys a = All-cons (λ (c : Callback J). c.number < n) x xs (All-head (λ (c : Callback J). c.number < n) x (xs ++ ys) a)
      (below-before n xs ys (All-tail (λ (c : Callback J). c.number < n) x (xs ++ ys) a))

  -- and with one more, of that number
  pub below-pushed : (n : ℕ) (xs ys : List (Callback J)) (x : Callback J) → x.number ≡ n → ys ≡ xs ++ x ∷ [] → AreBelow n xs → AreBelow (n + 1) ys
  below-pushed n xs ys x number e a = subst (AreBelow (n + 1)) (sym e) (All-push (λ (c : Callback J). c.number < n + 1) xs x
      (All-weaker (λ (c : Callback J). c.number < n) (λ (c : Callback J). c.number < n + 1) (λ c low. omega arith) xs a) (omega (arith, number)))

  pub longer : (n : ℕ) (xs ys : List (Callback J)) (x : Callback J) → ys ≡ xs ++ x ∷ [] → length xs ≡ n → length ys ≡ n + 1
  longer n xs ys x e len = ap length e ∙ (length-append xs (x ∷ []) ∙ ap (λ (k : ℕ). k + 1) len)
