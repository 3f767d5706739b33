-- The numbers, counts and order of a cut list.
use Rattle.std.proofs.Common.{◌≡◌, ◌↔◌, max, ℕ, zero, suc, ◌+◌, ◌-◌, ◌<◌, ◌≤◌, Bool, true, false, cond, List, [], ◌∷◌, ◌++◌, length, take, drop, inl, inr, refl, ap, ◌∙◌, arith, length-append}
use Rattle.std.specs.Prelude.{◌==◌, nat_lt, All, MatchOption}
use Rattle.std.proofs.lemmas.Bool.{eq-eqb, ne_eqb, lt-ltb, le-ltb, le-leb, cases_Bool}
use Rattle.std.proofs.lemmas.List.Elements.{All-head, All-tail, All-nil, All-cons, All-append, All-map}
use Rattle.std.proofs.lemmas.List.Sums.{sum_by-append, sum_by-cons}
use Rattle.rcu_jobs.specs.declared.callback.Callback.{Callback}
use Rattle.rcu_lists.specs.Labels.{Label, Done, Numbered, Bare, Labelled, marked, with_number, numbers_in, is_done, is_bare, is_numbered, may_follow, in_order, count, carries, has_two_below, lengths_of, numbers_of, IsLabelledList, callbacks_of, IsUpTo, MayAccelerate, after_accelerate}
use Rattle.rcu_numbers.specs.Numbers.{snap_of}
use Rattle.rcu_lists.specs.Cut.{cut}
use Rattle.rcu_lists.specs.Stamps.{newest_of}
use Rattle.rcu_lists.proofs.Stamps.{newest-all, newest-has}
use Rattle.rcu_lists.proofs.Cuts.{blocks, cut-blocks, by_parts, give-first, give-second}

-- the numbers of segments of these lengths
abbrev pub numbers_at : ℕ → ℕ → ℕ → ℕ → List ℕ
numbers_at n m zero k = []
numbers_at n m (suc j) zero = n ∷ []
numbers_at n m (suc j) (suc k) = n ∷ m ∷ []

with-twice : (n : ℕ) (ns : List ℕ) → with_number (Numbered n) (with_number (Numbered n) ns) ≡ with_number (Numbered n) ns
with-twice n [] = rw (eq-eqb n n refl)
with-twice n (m ∷ ms) = elim (cases_Bool (n == m)) [ inl e ↦ simp e | inr e ↦ simp (e, eq-eqb n n refl) ]

at_most_one : (p : Bool) → nat_lt 1 (0 + cond p 1 0) ≡ false
at_most_one true = refl
at_most_one false = refl

none_of : (b : Bool) (j : ℕ) → (0 < j → b ≡ false) → cond b j 0 ≡ 0
none_of true zero h = refl
none_of true (suc j) h = absurd (let e = h (omega arith) in cc)
none_of false j h = refl

at_most_two : (n m j k : ℕ) → length (numbers_at n m j k) ≤ 2
at_most_two n m zero k = omega arith
at_most_two n m (suc j) zero = omega arith
at_most_two n m (suc j) (suc k) = omega arith

pub no-second-number : (s n m j k : ℕ) → (j ≡ 0 → k ≡ 0) → (0 < k → n < m) → (0 < j → n ≡ s) → (0 < k → m ≤ s) → k ≡ 0
no-second-number s n m zero k h o p q = h refl
no-second-number s n m (suc j) zero h o p q = refl
no-second-number s n m (suc j) (suc k) h o p q = let e = p (omega arith) in let lt = o (omega arith) in let le = q (omega arith) in absurd (omega arith)

number-small : (s n j : ℕ) → (j ≡ 0 → n ≡ 0) → (0 < j → n ≤ s) → n ≤ s
number-small s n zero z h = let e = z refl in omega arith
number-small s n (suc j) z h = h (omega arith)

snap-join : (s a b : ℕ) → snap_of a ≤ s → snap_of b ≤ s → snap_of (max a b) ≤ s
snap-join s a b p q = omega arith

module _ {J : Type 0} where
  numbers-done : (d : List (Callback J)) (xs : List (Labelled J)) → numbers_in (marked Done d ++ xs) ≡ numbers_in xs
  numbers-done [] xs = refl
  numbers-done (c ∷ d) xs = numbers-done d xs

  numbers-bare : (e : List (Callback J)) → numbers_in (marked Bare e) ≡ []
  numbers-bare [] = refl
  numbers-bare (c ∷ e) = numbers-bare e

  numbers-marked : (n : ℕ) (c : Callback J) (a : List (Callback J)) (xs : List (Labelled J)) → numbers_in (marked (Numbered n) (c ∷ a) ++ xs) ≡ with_number (Numbered n) (numbers_in xs)
  numbers-marked n c [] xs = refl
  numbers-marked n c (x ∷ a) xs = ap (with_number (Numbered n)) (numbers-marked n x a xs) ∙ with-twice n (numbers_in xs)

  numbers-blocks : (n m : ℕ) (d a b e : List (Callback J)) → (length a ≡ 0 → length b ≡ 0) → (0 < length b → n < m) → numbers_in (blocks n m d a b e) ≡ numbers_at n m (length a) (length b)
  numbers-blocks n m d [] [] e h o = numbers-done d _ ∙ numbers-bare e
  numbers-blocks n m d [] (c ∷ b) e h o = absurd (let z = h refl in omega arith)
  numbers-blocks n m d (c ∷ a) [] e h o = numbers-done d _ ∙ numbers-marked n c a (marked Bare e) ∙ ap (with_number (Numbered n)) (numbers-bare e)
  numbers-blocks n m d (c ∷ a) (x ∷ b) e h o = let lt : n < m = o (omega arith) in
      numbers-done d _ ∙ numbers-marked n c a (marked (Numbered m) (x ∷ b) ++ marked Bare e) ∙ ap (with_number (Numbered n)) (numbers-marked m x b (marked Bare e) ∙ ap (with_number (Numbered m)) (numbers-bare e)) ∙ rw (ne_eqb n m (λ p. omega arith))

  pub numbers-cut : (n m i j k : ℕ) (cs : List (Callback J)) → i + j + k ≤ length cs → (j ≡ 0 → k ≡ 0) → (0 < k → n < m) → numbers_in (cut i j k n m cs) ≡ numbers_at n m j k
  numbers-cut n m i j k cs = let P : ℕ → ℕ → ℕ → List (Callback J) → Type 0 = λ i j k cs. (j ≡ 0 → k ≡ 0) → (0 < k → n < m) → numbers_in (cut i j k n m cs) ≡ numbers_at n m j k in
      by_parts P (λ d a b e h o. ap numbers_in (cut-blocks n m d a b e) ∙ numbers-blocks n m d a b e h o) i j k cs

  count-marked : (test : Label → Bool) (l : Label) (cs : List (Callback J)) → count test (marked l cs) ≡ cond (test l) (length cs) 0
  count-marked test l [] = elim (cases_Bool (test l)) [ inl e ↦ rw e | inr e ↦ rw e ]
  count-marked test l (c ∷ cs) = sum_by-cons (λ (x : Labelled J). cond (test x.label) 1 0) (record { label = l; callback = c }) (marked l cs) ∙ ap (λ z. cond (test l) 1 0 + z) (count-marked test l cs) ∙ elim (cases_Bool (test l)) [ inl e ↦ rw e (omega arith) | inr e ↦ rw e (omega arith) ]

  count-append : (test : Label → Bool) (xs ys : List (Labelled J)) → count test (xs ++ ys) ≡ count test xs + count test ys
  count-append test xs ys = sum_by-append (λ (x : Labelled J). cond (test x.label) 1 0) xs ys

  pub count-cut : (test : Label → Bool) (n m i j k : ℕ) (cs : List (Callback J)) → i + j + k ≤ length cs → count test (cut i j k n m cs) ≡ cond (test Done) i 0 + (cond (test (Numbered n)) j 0 + (cond (test (Numbered m)) k 0 + cond (test Bare) (length cs - i - j - k) 0))
  count-cut test n m i j k cs = let P : ℕ → ℕ → ℕ → List (Callback J) → Type 0 = λ i j k cs. count test (cut i j k n m cs) ≡ cond (test Done) i 0 + (cond (test (Numbered n)) j 0 + (cond (test (Numbered m)) k 0 + cond (test Bare) (length cs - i - j - k) 0)) in
      by_parts P (λ d a b e. let rest : length e ≡ length (d ++ (a ++ (b ++ e))) - length d - length a - length b = simp length-append (omega arith) in
      ap (count test) (cut-blocks n m d a b e) ∙ simp (count-append test, count-marked test) (ap (λ z. cond (test Done) (length d) 0 + (cond (test (Numbered n)) (length a) 0 + (cond (test (Numbered m)) (length b) 0 + cond (test Bare) z 0))) rest)) i j k cs

  -- accelerate
  pub two-below : (s n m i j k : ℕ) (cs : List (Callback J)) → i + j + k ≤ length cs → (j ≡ 0 → k ≡ 0) → (0 < k → n < m) → 0 < k → m < s → has_two_below s (cut i j k n m cs) ≡ true
  two-below s n m i zero k cs le h o p q = absurd (let z = h refl in omega arith)
  two-below s n m i (suc j) zero cs le h o p q = absurd (omega arith)
  two-below s n m i (suc j) (suc k) cs le h o p q = let lt : n < m = o p in rw (numbers-cut n m i (suc j) (suc k) cs le h o) (rw (lt-ltb n s (omega arith), lt-ltb m s q) refl)

  pub not-two-below : (s n m i j k : ℕ) (cs : List (Callback J)) → i + j + k ≤ length cs → (j ≡ 0 → k ≡ 0) → (0 < k → n < m) → (0 < k → s ≤ m) → has_two_below s (cut i j k n m cs) ≡ false
  not-two-below s n m i zero k cs le h o q = rw (numbers-cut n m i zero k cs le h o) refl
  not-two-below s n m i (suc j) zero cs le h o q = rw (numbers-cut n m i (suc j) zero cs le h o) (at_most_one (nat_lt n s))
  not-two-below s n m i (suc j) (suc k) cs le h o q = rw (numbers-cut n m i (suc j) (suc k) cs le h o) (rw (le-ltb m s (q (omega arith))) (elim (cases_Bool (nat_lt n s)) [ inl e ↦ rw e refl | inr e ↦ rw e refl ]))

  pub accelerate-full : (s n m i j k : ℕ) (cs : List (Callback J)) → i + j + k ≤ length cs → (j ≡ 0 → k ≡ 0) → (0 < k → n < m) → 0 < k → m < s → cut i j k n m cs ≡ after_accelerate s (cut i j k n m cs)
  accelerate-full s n m i j k cs le h o p q = rw (two-below s n m i j k cs le h o p q)

  pub accelerate-second : (s n m i j k : ℕ) (cs : List (Callback J)) → i + j + k ≤ length cs → (j ≡ 0 → k ≡ 0) → (0 < k → n < m) → (0 < k → m ≡ s) → cut i j (length cs - i - j) n s cs ≡ after_accelerate s (cut i j k n m cs)
  accelerate-second s n m i j k cs le h o p = rw (not-two-below s n m i j k cs le h o (λ x. let e = p x in omega arith)) (give-second s n m i j k cs p le)

  pub accelerate-first : (s n m i j k : ℕ) (cs : List (Callback J)) → i + j + k ≤ length cs → (0 < j → n ≡ s) → k ≡ 0 → cut i (length cs - i) 0 s 0 cs ≡ after_accelerate s (cut i j k n m cs)
  accelerate-first s n m i j k cs le p z = rw (not-two-below s n m i j k cs le (λ _. z) (λ x. omega arith) (λ x. omega arith)) (give-first s n m i j k cs p z le)

  All-right : (P : Labelled J → Type 0) (xs ys : List (Labelled J)) → All P (xs ++ ys) → All P ys
  All-right P [] ys h = h
  All-right P (x ∷ xs) ys h = All-right P xs ys (All-tail P x (xs ++ ys) h)

  -- what is asked bounds the numbers
  first : (s n : ℕ) (a : List (Callback J)) (xs : List (Labelled J)) → MayAccelerate s (marked (Numbered n) a ++ xs) → 0 < length a → n ≤ s
  first s n [] xs h p = absurd (omega arith)
  first s n (c ∷ a) xs h p = (All-head (λ (x : Labelled J). IsUpTo s x.label × (snap_of x.callback.stamp ≤ s)) (record { label = Numbered n; callback = c }) (marked (Numbered n) a ++ xs) h).0

  may-blocks : (s n m : ℕ) (d a b e : List (Callback J)) → MayAccelerate s (blocks n m d a b e) → (0 < length a → n ≤ s) × (0 < length b → m ≤ s)
  may-blocks s n m d a b e h = let P : Labelled J → Type 0 = λ x. IsUpTo s x.label × (snap_of x.callback.stamp ≤ s) in
      let h1 = All-right P (marked Done d) (marked (Numbered n) a ++ (marked (Numbered m) b ++ marked Bare e)) h in
      let h2 = All-right P (marked (Numbered n) a) (marked (Numbered m) b ++ marked Bare e) h1 in
      (first s n a (marked (Numbered m) b ++ marked Bare e) h1, first s m b (marked Bare e) h2)

  pub may-cut : (s n m i j k : ℕ) (cs : List (Callback J)) → i + j + k ≤ length cs → MayAccelerate s (cut i j k n m cs) → (0 < j → n ≤ s) × (0 < k → m ≤ s)
  may-cut s n m i j k cs = let P : ℕ → ℕ → ℕ → List (Callback J) → Type 0 = λ i j k cs. MayAccelerate s (cut i j k n m cs) → (0 < j → n ≤ s) × (0 < k → m ≤ s) in
      by_parts P (λ d a b e h. may-blocks s n m d a b e (rw (cut-blocks n m d a b e) at h)) i j k cs

  pub may-numbers : (s n m i j k : ℕ) (cs : List (Callback J)) → i + j + k ≤ length cs → (j ≡ 0 → n ≡ 0) → (k ≡ 0 → m ≡ 0) → MayAccelerate s (cut i j k n m cs) → (n ≤ s) × (m ≤ s)
  may-numbers s n m i j k cs le z w h = let b = may-cut s n m i j k cs le h in (number-small s n j z b.0, number-small s m k w b.1)

  pub carries-none : (s n m i j k : ℕ) (cs : List (Callback J)) → i + j + k ≤ length cs → (0 < j → n < s) → (0 < k → m < s) → carries s (cut i j k n m cs) ≡ false
  carries-none s n m i j k cs le p q = rw (count-cut (is_numbered s) n m i j k cs le)
      (rw (none_of (n == s) j (λ x. ne_eqb n s (λ e. let y = p x in omega arith)), none_of (m == s) k (λ x. ne_eqb m s (λ e. let y = q x in omega arith))) refl)

  pub carries-second : (s n i j k : ℕ) (cs : List (Callback J)) → i + j + k ≤ length cs → 0 < k → carries s (cut i j k n s cs) ≡ true
  carries-second s n i j k cs le p = lt-ltb 0 (count (is_numbered s) (cut i j k n s cs)) (rw (count-cut (is_numbered s) n s i j k cs le) (rw (eq-eqb s s refl) (omega arith)))

  pub carries-first : (s m i j k : ℕ) (cs : List (Callback J)) → i + j + k ≤ length cs → 0 < j → carries s (cut i j k s m cs) ≡ true
  carries-first s m i j k cs le p = lt-ltb 0 (count (is_numbered s) (cut i j k s m cs)) (rw (count-cut (is_numbered s) s m i j k cs le) (rw (eq-eqb s s refl) (omega arith)))

  -- lengths and numbers
  pub count-done : (n m i j k : ℕ) (cs : List (Callback J)) → i + j + k ≤ length cs → count is_done (cut i j k n m cs) ≡ i
  count-done n m i j k cs le = count-cut is_done n m i j k cs le ∙ omega arith

  count-bare : (n m i j k : ℕ) (cs : List (Callback J)) → i + j + k ≤ length cs → count is_bare (cut i j k n m cs) ≡ length cs - i - j - k
  count-bare n m i j k cs le = count-cut is_bare n m i j k cs le ∙ omega arith

  count-first : (n m i j k : ℕ) (cs : List (Callback J)) → i + j + k ≤ length cs → (0 < k → n < m) → count (is_numbered n) (cut i j k n m cs) ≡ j
  count-first n m i j k cs le o = count-cut (is_numbered n) n m i j k cs le ∙ rw (eq-eqb n n refl, none_of (m == n) k (λ p. ne_eqb m n (λ e. let lt = o p in omega arith))) (omega arith)

  count-second : (n m i j k : ℕ) (cs : List (Callback J)) → i + j + k ≤ length cs → n < m → count (is_numbered m) (cut i j k n m cs) ≡ k
  count-second n m i j k cs le lt = count-cut (is_numbered m) n m i j k cs le ∙ rw (eq-eqb m m refl, none_of (n == m) j (λ p. ne_eqb n m (λ e. omega arith))) (omega arith)

  pub lengths-cut : (n m i j k : ℕ) (cs : List (Callback J)) → i + j + k ≤ length cs → (j ≡ 0 → k ≡ 0) → (0 < k → n < m) → lengths_of (cut i j k n m cs) ≡ i ∷ j ∷ k ∷ (length cs - i - j - k) ∷ []
  lengths-cut n m i zero k cs le h o = let z : k ≡ 0 = h refl in rw (numbers-cut n m i zero k cs le h o) (rw (count-done n m i zero k cs le, count-bare n m i zero k cs le) (rw z refl))
  lengths-cut n m i (suc j) zero cs le h o = rw (numbers-cut n m i (suc j) zero cs le h o) (rw (count-done n m i (suc j) zero cs le, count-first n m i (suc j) zero cs le o, count-bare n m i (suc j) zero cs le) refl)
  lengths-cut n m i (suc j) (suc k) cs le h o = rw (numbers-cut n m i (suc j) (suc k) cs le h o) (rw (count-done n m i (suc j) (suc k) cs le, count-first n m i (suc j) (suc k) cs le o, count-second n m i (suc j) (suc k) cs le (o (omega arith)), count-bare n m i (suc j) (suc k) cs le) refl)

  pub numbers-shown : (n m i j k : ℕ) (cs : List (Callback J)) → i + j + k ≤ length cs → (j ≡ 0 → (k ≡ 0) × (n ≡ 0)) → (k ≡ 0 → m ≡ 0) → (0 < k → n < m) → numbers_of (cut i j k n m cs) ≡ n ∷ m ∷ []
  numbers-shown n m i zero k cs le h z o = rw (numbers-cut n m i zero k cs le (λ e. (h e).0) o) (let e = h refl in let f = z e.0 in cc)
  numbers-shown n m i (suc j) zero cs le h z o = rw (numbers-cut n m i (suc j) zero cs le (λ e. (h e).0) o) (let f = z refl in cc)
  numbers-shown n m i (suc j) (suc k) cs le h z o = rw (numbers-cut n m i (suc j) (suc k) cs le (λ e. (h e).0) o) refl

  -- the order
  order-marked : (before label : Label) (cs : List (Callback J)) (xs : List (Labelled J)) → (0 < length cs → may_follow before label ≡ true) → may_follow label label ≡ true → (0 < length cs → in_order label xs ≡ true) → (length cs ≡ 0 → in_order before xs ≡ true) → in_order before (marked label cs ++ xs) ≡ true
  order-marked before label [] xs f r h z = z refl
  order-marked before label (c ∷ cs) xs f r h z = rw (f (omega arith)) (order-marked label label cs xs (λ _. r) r (λ _. h (omega arith)) (λ _. h (omega arith)))

  order-bare : (before : Label) (cs : List (Callback J)) → may_follow before Bare ≡ true → in_order before (marked Bare cs) ≡ true
  order-bare before [] h = refl
  order-bare before (c ∷ cs) h = rw h (order-bare Bare cs refl)

  order-blocks : (n m : ℕ) (d a b e : List (Callback J)) → (length a ≡ 0 → length b ≡ 0) → (0 < length b → n < m) → in_order Done (blocks n m d a b e) ≡ true
  order-blocks n m d a b e h o =
      let last : (before : Label) → may_follow before Bare ≡ true → in_order before (marked Bare e) ≡ true = λ before f. order-bare before e f in
      let second : (before : Label) → (0 < length b → may_follow before (Numbered m) ≡ true) → may_follow before Bare ≡ true → in_order before (marked (Numbered m) b ++ marked Bare e) ≡ true = λ before f g. order-marked before (Numbered m) b (marked Bare e) f (le-leb m m (omega arith)) (λ _. last (Numbered m) refl) (λ _. last before g) in
      let first_on : in_order Done (marked (Numbered n) a ++ (marked (Numbered m) b ++ marked Bare e)) ≡ true = order-marked Done (Numbered n) a (marked (Numbered m) b ++ marked Bare e) (λ _. refl) (le-leb n n (omega arith)) (λ _. second (Numbered n) (λ p. le-leb n m (let lt = o p in omega arith)) refl) (λ _. second Done (λ _. refl) refl) in
      order-marked Done Done d (marked (Numbered n) a ++ (marked (Numbered m) b ++ marked Bare e)) (λ _. refl) refl (λ _. first_on) (λ _. first_on)

  pub well-formed : (n m i j k : ℕ) (cs : List (Callback J)) → i + j + k ≤ length cs → (j ≡ 0 → k ≡ 0) → (0 < k → n < m) → IsLabelledList (cut i j k n m cs)
  well-formed n m i j k cs le h o = let P : ℕ → ℕ → ℕ → List (Callback J) → Type 0 = λ i j k cs. (j ≡ 0 → k ≡ 0) → (0 < k → n < m) → in_order Done (cut i j k n m cs) ≡ true in (
    by_parts P (λ d a b e h o. ap (in_order Done) (cut-blocks n m d a b e) ∙ order-blocks n m d a b e h o) i j k cs le h o,
    rw (numbers-cut n m i j k cs le h o) (at_most_two n m j k),
  )

  -- what is asked of accelerate, from the numbers and the stamps
  up-to-marked : (s : ℕ) (l : Label) (cs : List (Callback J)) → IsUpTo s l → All (λ (x : Labelled J). IsUpTo s x.label) (marked l cs)
  up-to-marked s l [] h = All-nil (λ (x : Labelled J). IsUpTo s x.label)
  up-to-marked s l (c ∷ cs) h = All-cons (λ (x : Labelled J). IsUpTo s x.label) (record { label = l; callback = c }) (marked l cs) h (up-to-marked s l cs h)

  All-both : (s : ℕ) (xs : List (Labelled J)) → All (λ (x : Labelled J). IsUpTo s x.label) xs → All (λ (c : Callback J). snap_of c.stamp ≤ s) (callbacks_of xs) → MayAccelerate s xs
  All-both s [] h k = All-nil (λ (x : Labelled J). IsUpTo s x.label × (snap_of x.callback.stamp ≤ s))
  All-both s (x ∷ xs) h k = let U : Labelled J → Type 0 = λ x. IsUpTo s x.label in let Q : Callback J → Type 0 = λ c. snap_of c.stamp ≤ s in
      All-cons (λ (x : Labelled J). IsUpTo s x.label × (snap_of x.callback.stamp ≤ s)) x xs (All-head U x xs h, All-head Q x.callback (callbacks_of xs) k) (All-both s xs (All-tail U x xs h) (All-tail Q x.callback (callbacks_of xs) k))

  pub may : (s n m i j k : ℕ) (cs : List (Callback J)) → n ≤ s → m ≤ s → i + j + k ≤ length cs → All (λ (c : Callback J). snap_of c.stamp ≤ s) (callbacks_of (cut i j k n m cs)) → MayAccelerate s (cut i j k n m cs)
  may s n m i j k cs p q le h = let U : Labelled J → Type 0 = λ x. IsUpTo s x.label in
      All-both s (cut i j k n m cs) (All-append U _ _ (up-to-marked s Done (take i cs) tt) (All-append U _ _ (up-to-marked s (Numbered n) (take j (drop i cs)) p) (All-append U _ _ (up-to-marked s (Numbered m) (take k (drop j (drop i cs))) q) (up-to-marked s Bare (drop k (drop j (drop i cs))) tt)))) h

  may-stamps : (s : ℕ) (xs : List (Labelled J)) → MayAccelerate s xs → All (λ (c : Callback J). snap_of c.stamp ≤ s) (callbacks_of xs)
  may-stamps s xs h = All-map (λ (c : Callback J). snap_of c.stamp ≤ s) (λ (x : Labelled J). x.callback) xs (λ k d lt. (h k d lt).1)

  -- the same, from the two numbers and the greatest stamp
  pub may-iff : (s n m i j k : ℕ) (cs : List (Callback J)) → i + j + k ≤ length cs → (j ≡ 0 → n ≡ 0) → (k ≡ 0 → m ≡ 0) → (n ≤ s) × (m ≤ s) × MatchOption (newest_of (callbacks_of (cut i j k n m cs))) (Unit {0}) (λ t. snap_of t ≤ s) ↔ MayAccelerate s (cut i j k n m cs)
  may-iff s n m i j k cs le z w = (
    (λ h. may s n m i j k cs h.0 h.1 le (newest-all (λ t. snap_of t ≤ s) (λ a b le h. omega arith) (callbacks_of (cut i j k n m cs)) h.2)),
    (λ h. let b = may-numbers s n m i j k cs le z w h in (b.0, b.1, newest-has (λ t. snap_of t ≤ s) (snap-join s) (callbacks_of (cut i j k n m cs)) (may-stamps s (cut i j k n m cs) h))),
  )
