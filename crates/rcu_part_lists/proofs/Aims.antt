-- How looks and moves keep the numbers of a list within its aim.
use Rattle.std.proofs.Common.{◌≡◌, ℕ, ◌+◌, ◌≤◌, max, Bool, true, false, cond, List, [], ◌∷◌, ◌++◌, map, Option, Some, None, inl, inr, refl, ap, sym, ◌∙◌, subst, arith}
use Rattle.std.specs.Prelude.{All, IsTrue, MatchOption, nat_le, nat_lt, if◌then◌else◌}
use Rattle.std.proofs.lemmas.Bool.{le-leb, leb-true, eq-eqb, lt-ltb, ltb-true, cases_Bool}
use Rattle.std.proofs.lemmas.List.{map-append}
use Rattle.std.proofs.lemmas.List.Elements.{All-head, All-tail, All-nil, All-cons, All-push, All-map, All-weaker}
use Rattle.std.proofs.lemmas.List.Sums.{sum_by-cons}
use Rattle.rcu_jobs.specs.declared.callback.Callback.{Callback}
use Rattle.rcu_numbers.specs.Numbers.{snap_of}
use Rattle.rcu_numbers.specs.declared.sequence.TheConstants.{LAST_NUMBER}
use Rattle.rcu_lists.specs.Labels.{Label, Done, Numbered, Bare, Labelled, marked, relabel, advanced, given, is_numbered, count, carries, callbacks_of, IsUpTo, MayAccelerate, has_two_below, after_advance, after_accelerate}
use Rattle.rcu_lists.specs.Stamps.{greater, newest_of}
use Rattle.rcu_part_lists.specs.Aims.{is_up_to, AreUpTo, aim, AreAimed, looked, wanted}
use Rattle.rcu_part_lists.specs.Limits.{IsSafe, AreSafe}

-- labels

one-raised : (s t : ℕ) (l : Label) → s ≤ t → IsTrue (is_up_to s l) → IsTrue (is_up_to t l)
one-raised s t Done le h = refl
one-raised s t (Numbered n) le h = le-leb n t (let k = leb-true n s h in omega arith)
one-raised s t Bare le h = refl

one-advanced : (s t : ℕ) (l : Label) → IsTrue (is_up_to t l) → IsTrue (is_up_to t (advanced s l))
one-advanced s t Done h = refl
one-advanced s t (Numbered n) h = elim (cases_Bool (nat_le n s)) [ inl e ↦ rw e refl | inr e ↦ rw e h ]
one-advanced s t Bare h = refl

one-given : (s t : ℕ) (l : Label) → s ≤ t → IsTrue (is_up_to t l) → IsTrue (is_up_to t (given s l))
one-given s t Done le h = refl
one-given s t (Numbered n) le h = h
one-given s t Bare le h = le-leb s t le

one-up : (s : ℕ) (l : Label) → IsTrue (is_up_to s l) → IsUpTo s l
one-up s Done h = tt
one-up s (Numbered n) h = leb-true n s h
one-up s Bare h = tt

pub max-later : (a b : ℕ) → a ≤ b → max a b ≡ b
max-later a b le = omega arith

-- the greatest stamp

greater-raised : (a b : ℕ) (o : Option ℕ) → a ≤ b → greater a o ≤ greater b o
greater-raised a b None le = omega arith
greater-raised a b (Some m) le = omega arith

greater-same : (a b : ℕ) (o : Option ℕ) → b ≤ a → greater a (Some (greater b o)) ≡ greater a o
greater-same a b None le = omega arith
greater-same a b (Some m) le = omega arith

greater-more : (a b : ℕ) (o : Option ℕ) → greater a o ≤ greater a (Some (greater b o))
greater-more a b None = omega arith
greater-more a b (Some m) = omega arith

greater-within : (a k : ℕ) (o : Option ℕ) → a ≤ k → MatchOption o (Unit {0}) (λ m. m ≤ k) → greater a o ≤ k
greater-within a k None le h = le
greater-within a k (Some m) le h = omega arith

top : (s a : ℕ) (o : Option ℕ) → s ≤ greater a (Some (greater s o))
top s a None = omega arith
top s a (Some m) = omega arith

pushed : (a b : ℕ) (o p : Option ℕ) → greater b o ≤ greater b p → greater a (Some (greater b o)) ≤ greater a (Some (greater b p))
pushed a b o p le = omega arith

snap-raised : (a b : ℕ) → a ≤ b → snap_of a ≤ snap_of b
snap-raised a b le = omega arith

snap-above : (a b : ℕ) → snap_of a ≤ b → a ≤ b
snap-above a b le = omega arith

-- counts

counted : (b : Bool) (k : ℕ) → nat_lt 0 k ≡ true → nat_lt 0 (cond b 1 0 + k) ≡ true
counted b k h = let p = ltb-true 0 k h in lt-ltb 0 (cond b 1 0 + k) (omega arith)

module _ {J : Type 0} where
  abbrev up_to_at : ℕ → Labelled J → Type 0
  up_to_at s x = IsTrue (is_up_to s x.label)

  -- callbacks keep their places
  pub callbacks-relabel : (f : Label → Label) (xs : List (Labelled J)) → callbacks_of (map (relabel f) xs) ≡ callbacks_of xs
  callbacks-relabel f [] = refl
  callbacks-relabel f (x ∷ xs) = ap (λ l. x.callback ∷ l) (callbacks-relabel f xs)

  pub callbacks-accelerate : (s : ℕ) (xs : List (Labelled J)) → callbacks_of (after_accelerate s xs) ≡ callbacks_of xs
  callbacks-accelerate s xs = elim (cases_Bool (has_two_below s xs)) [ inl e ↦ rw e refl | inr e ↦ rw e (callbacks-relabel (given s) xs) ]

  pub callbacks-looked : (s : ℕ) (xs : List (Labelled J)) → callbacks_of (looked s xs) ≡ callbacks_of xs
  callbacks-looked s xs = callbacks-accelerate (aim s xs) (after_advance s xs) ∙ callbacks-relabel (advanced s) xs

  pub callbacks-marked : (l : Label) (cs : List (Callback J)) → callbacks_of (marked l cs) ≡ cs
  callbacks-marked l [] = refl
  callbacks-marked l (c ∷ cs) = ap (λ z. c ∷ z) (callbacks-marked l cs)

  pub callbacks-append : (xs ys : List (Labelled J)) → callbacks_of (xs ++ ys) ≡ callbacks_of xs ++ callbacks_of ys
  callbacks-append xs ys = map-append (λ (x : Labelled J). x.callback) xs ys

  -- a greater bound
  pub up-raised : (s t : ℕ) (xs : List (Labelled J)) → s ≤ t → AreUpTo s xs → AreUpTo t xs
  up-raised s t xs le h = All-weaker (up_to_at s) (up_to_at t) (λ x k. one-raised s t x.label le k) xs h

  pub up-advance : (s t : ℕ) (xs : List (Labelled J)) → AreUpTo t xs → AreUpTo t (after_advance s xs)
  up-advance s t xs h = All-map (up_to_at t) (relabel (advanced s)) xs (All-weaker (up_to_at t) (λ x. up_to_at t (relabel (advanced s) x)) (λ x k. one-advanced s t x.label k) xs h)

  pub up-accelerate : (s t : ℕ) (xs : List (Labelled J)) → s ≤ t → AreUpTo t xs → AreUpTo t (after_accelerate s xs)
  up-accelerate s t xs le h = elim (cases_Bool (has_two_below s xs)) [
    | inl e ↦ rw e h
    | inr e ↦ rw e (All-map (up_to_at t) (relabel (given s)) xs (All-weaker (up_to_at t) (λ x. up_to_at t (relabel (given s) x)) (λ x k. one-given s t x.label le k) xs h))
  ]

  -- the aim

  newest-within : (k : ℕ) (cs : List (Callback J)) → All (λ (c : Callback J). c.stamp ≤ k) cs → MatchOption (newest_of cs) (Unit {0}) (λ m. m ≤ k)
  newest-within k [] h = tt
  newest-within k (c ∷ cs) h = greater-within c.stamp k (newest_of cs) (All-head (λ (c : Callback J). c.stamp ≤ k) c cs h) (newest-within k cs (All-tail (λ (c : Callback J). c.stamp ≤ k) c cs h))

  -- what is seen and all stamps are grace-period numbers, so is the greatest of them
  pub greatest-safe : (seen : ℕ) (cs : List (Callback J)) → seen ≤ LAST_NUMBER → AreSafe cs → greater seen (newest_of cs) ≤ LAST_NUMBER
  greatest-safe seen cs le h = greater-within seen LAST_NUMBER (newest_of cs) le (newest-within LAST_NUMBER cs (All-weaker IsSafe (λ (c : Callback J). c.stamp ≤ LAST_NUMBER) (λ c k. k.0) cs h))

  pub aim-raised : (a b : ℕ) (xs : List (Labelled J)) → a ≤ b → aim a xs ≤ aim b xs
  aim-raised a b xs le = snap-raised _ _ (greater-raised a b (newest_of (callbacks_of xs)) le)

  pub aim-same : (a : ℕ) (xs ys : List (Labelled J)) → callbacks_of xs ≡ callbacks_of ys → aim a xs ≡ aim a ys
  aim-same a xs ys e = ap (λ (cs : List (Callback J)). snap_of (greater a (newest_of cs))) e

  stamps-aimed : (a : ℕ) (cs : List (Callback J)) → All (λ (c : Callback J). snap_of c.stamp ≤ snap_of (greater a (newest_of cs))) cs
  stamps-aimed a [] = All-nil (λ (c : Callback J). snap_of c.stamp ≤ snap_of (greater a None))
  stamps-aimed a (c ∷ cs) = let o = newest_of cs in let t = snap_of (greater a (Some (greater c.stamp o))) in
      All-cons (λ (x : Callback J). snap_of x.stamp ≤ t) c cs (snap-raised _ _ (top c.stamp a o))
      (All-weaker (λ (x : Callback J). snap_of x.stamp ≤ snap_of (greater a o)) (λ (x : Callback J). snap_of x.stamp ≤ t) (λ x k. let m = snap-raised _ _ (greater-more a c.stamp o) in omega arith) cs (stamps-aimed a cs))

  -- accelerate may be called by the aim
  may-by : (s : ℕ) (xs : List (Labelled J)) → AreUpTo s xs → All (λ (c : Callback J). snap_of c.stamp ≤ s) (callbacks_of xs) → MayAccelerate s xs
  may-by s [] h k = All-nil (λ (x : Labelled J). IsUpTo s x.label × (snap_of x.callback.stamp ≤ s))
  may-by s (x ∷ xs) h k = let Q : Callback J → Type 0 = λ c. snap_of c.stamp ≤ s in
      All-cons (λ (x : Labelled J). IsUpTo s x.label × (snap_of x.callback.stamp ≤ s)) x xs (one-up s x.label (All-head (up_to_at s) x xs h), All-head Q x.callback (callbacks_of xs) k)
      (may-by s xs (All-tail (up_to_at s) x xs h) (All-tail Q x.callback (callbacks_of xs) k))

  pub may-look : (a seen : ℕ) (xs : List (Labelled J)) → a ≤ seen → AreAimed a xs → MayAccelerate (aim seen xs) (after_advance seen xs)
  may-look a seen xs le h = may-by (aim seen xs) (after_advance seen xs) (up-advance seen (aim seen xs) xs (up-raised (aim a xs) (aim seen xs) xs (aim-raised a seen xs le) h))
      (subst (All (λ (c : Callback J). snap_of c.stamp ≤ aim seen xs)) (sym (callbacks-relabel (advanced seen) xs)) (stamps-aimed seen (callbacks_of xs)))

  -- a look keeps the numbers within the aim
  pub aimed-look : (a seen : ℕ) (xs : List (Labelled J)) → a ≤ seen → AreAimed a xs → AreAimed seen (looked seen xs)
  aimed-look a seen xs le h = let t = aim seen xs in subst (λ m. AreUpTo m (looked seen xs)) (aim-same seen xs (looked seen xs) (sym (callbacks-looked seen xs)))
      (up-accelerate t t (after_advance seen xs) (omega arith) (up-advance seen t xs (up-raised (aim a xs) t xs (aim-raised a seen xs le) h)))

  -- a number that a look gives is answered

  carries-cons : (s : ℕ) (x : Labelled J) (xs : List (Labelled J)) → carries s (x ∷ xs) ≡ nat_lt 0 (cond (is_numbered s x.label) 1 0 + count (is_numbered s) xs)
  carries-cons s x xs = ap (nat_lt 0) (sum_by-cons (λ (y : Labelled J). cond (is_numbered s y.label) 1 0) x xs)

  carries-later : (s : ℕ) (x : Labelled J) (xs : List (Labelled J)) → carries s xs ≡ true → carries s (x ∷ xs) ≡ true
  carries-later s x xs h = carries-cons s x xs ∙ counted (is_numbered s x.label) (count (is_numbered s) xs) h

  carries-first : (s : ℕ) (x : Labelled J) (xs : List (Labelled J)) → is_numbered s x.label ≡ true → carries s (x ∷ xs) ≡ true
  carries-first s x xs h = carries-cons s x xs ∙ rw h (lt-ltb 0 (1 + count (is_numbered s) xs) (omega arith))

  given-first : (s t : ℕ) (x : Labelled J) (xs : List (Labelled J)) (l : Label) → x.label ≡ l → (carries s (map (relabel (given s)) (x ∷ xs)) ≡ true → s ≤ t) → IsTrue (is_up_to t l) → IsTrue (is_up_to t (given s l))
  given-first s t x xs Done e h k = refl
  given-first s t x xs (Numbered n) e h k = k
  given-first s t x xs Bare e h k = le-leb s t (h (carries-first s (relabel (given s) x) (map (relabel (given s)) xs) (rw e (eq-eqb s s refl))))

  given-up : (s t : ℕ) (xs : List (Labelled J)) → (carries s (map (relabel (given s)) xs) ≡ true → s ≤ t) → AreUpTo t xs → AreUpTo t (map (relabel (given s)) xs)
  given-up s t [] h k = k
  given-up s t (x ∷ xs) h k = All-cons (up_to_at t) (relabel (given s) x) (map (relabel (given s)) xs)
      (given-first s t x xs x.label refl h (All-head (up_to_at t) x xs k))
      (given-up s t xs (λ e. h (carries-later s (relabel (given s) x) (map (relabel (given s)) xs) e)) (All-tail (up_to_at t) x xs k))

  accelerate-needed : (s t : ℕ) (xs : List (Labelled J)) → (carries s (after_accelerate s xs) ≡ true → s ≤ t) → AreUpTo t xs → AreUpTo t (after_accelerate s xs)
  accelerate-needed s t xs = let P : Bool → Type 0 = λ b. (carries s (if b then xs else map (relabel (given s)) xs) ≡ true → s ≤ t) → AreUpTo t xs → AreUpTo t (if b then xs else map (relabel (given s)) xs) in
      elim (has_two_below s xs) as P [ true ↦ λ h k. k | false ↦ λ h k. given-up s t xs h k ]

  pub look-needed : (s t : ℕ) (xs : List (Labelled J)) → (carries (aim s xs) (looked s xs) ≡ true → aim s xs ≤ t) → AreUpTo t xs → AreUpTo t (looked s xs)
  look-needed s t xs h k = accelerate-needed (aim s xs) t (after_advance s xs) h (up-advance s t xs k)

  -- a new callback
  newest-push : (a : ℕ) (cs : List (Callback J)) (c : Callback J) → greater a (newest_of cs) ≤ greater a (newest_of (cs ++ c ∷ []))
  newest-push a [] c = greater-more a c.stamp None
  newest-push a (x ∷ cs) c = pushed a x.stamp (newest_of cs) (newest_of (cs ++ c ∷ [])) (newest-push x.stamp cs c)

  aim-of-push : (a : ℕ) (xs : List (Labelled J)) (c : Callback J) → aim a (xs ++ record { label = Bare; callback = c } ∷ []) ≡ snap_of (greater a (newest_of (callbacks_of xs ++ c ∷ [])))
  aim-of-push a xs c = ap (λ (cs : List (Callback J)). snap_of (greater a (newest_of cs))) (callbacks-append xs (record { label = Bare; callback = c } ∷ []))

  pub aimed-push : (a : ℕ) (xs : List (Labelled J)) (c : Callback J) → AreAimed a xs → AreAimed a (xs ++ record { label = Bare; callback = c } ∷ [])
  aimed-push a xs c h = let t = aim a (xs ++ record { label = Bare; callback = c } ∷ []) in
      let m = snap-raised _ _ (newest-push a (callbacks_of xs) c) in
      let e = aim-of-push a xs c in
      All-push (up_to_at t) xs (record { label = Bare; callback = c }) (up-raised (aim a xs) t xs (omega arith) h) refl

  -- a done callback leaves
  pub aimed-left : (a : ℕ) (cs : List (Callback J)) (ys : List (Labelled J)) → All (λ (c : Callback J). snap_of c.stamp ≤ a) cs → AreAimed a (marked Done cs ++ ys) → AreAimed a ys
  aimed-left a [] ys s h = h
  aimed-left a (c ∷ cs) ys s h = let Q : Callback J → Type 0 = λ c. snap_of c.stamp ≤ a in
      let zs = marked Done cs ++ ys in
      aimed-left a cs ys (All-tail Q c cs s) (subst (λ m. AreUpTo m zs) (ap snap_of (greater-same a c.stamp (newest_of (callbacks_of zs)) (snap-above c.stamp a (All-head Q c cs s))))
      (All-tail (up_to_at (aim a (record { label = Done; callback = c } ∷ zs))) (record { label = Done; callback = c }) zs h))

  -- the steps of a look
  pub look-steps : (seen newest aimed : ℕ) (xs mid new : List (Labelled J)) → mid ≡ after_advance seen xs → newest ≡ greater seen (newest_of (callbacks_of mid)) → aimed ≡ snap_of newest → new ≡ after_accelerate aimed mid
      → (aimed ≡ aim seen xs) × (new ≡ looked seen xs)
  look-steps seen newest aimed xs mid new m n a e =
      let same : aimed ≡ aim seen xs = a ∙ ap snap_of (n ∙ ap (λ (cs : List (Callback J)). greater seen (newest_of cs)) (ap callbacks_of m ∙ callbacks-relabel (advanced seen) xs)) in
      (same, e ∙ (ap (after_accelerate aimed) m ∙ ap (λ s. after_accelerate s (after_advance seen xs)) same))

  pub look-wants : (seen aimed : ℕ) (xs new : List (Labelled J)) (b : Bool) → b ≡ carries aimed new → (aimed ≡ aim seen xs) × (new ≡ looked seen xs) → cond b (Some aimed) None ≡ wanted seen xs
  look-wants seen aimed xs new b c e = ap (λ x. cond x (Some aimed) None) (c ∙ (ap (λ s. carries s new) e.0 ∙ ap (carries (aim seen xs)) e.1)) ∙ ap (λ (s : ℕ). cond (carries (aim seen xs) (looked seen xs)) (Some s) None) e.0
