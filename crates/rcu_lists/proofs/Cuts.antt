-- A cut list as four lists, and how the bounds move.
use Rattle.std.proofs.Common.{◌≡◌, ℕ, ◌+◌, ◌-◌, ◌<◌, ◌≤◌, List, [], ◌∷◌, ◌++◌, map, length, take, drop, refl, ap, sym, ◌∙◌, subst, arith, append_assoc, length-append, length-drop, get_or, Option, Some, None, MatchOption}
use Rattle.std.specs.Option.{option_to_list}
use Rattle.std.proofs.lemmas.List.{map-append, append-nil, take_at, drop_at, length-take-le, take-append-drop}
use Rattle.std.proofs.Math.Seq.{take-append-add, drop-append-add}
use Rattle.std.proofs.lemmas.Bool.{le-leb, lt-leb}
use Rattle.rcu_jobs.specs.declared.callback.Callback.{Callback}
use Rattle.rcu_lists.specs.Labels.{Label, Done, Numbered, Bare, Labelled, marked, relabel, advanced, given, after_advance, callbacks_of}
use Rattle.rcu_lists.specs.Cut.{cut}

stays : (s n : ℕ) → s < n → advanced s (Numbered n) ≡ Numbered n
stays s n h = rw (lt-leb n s h)

passes : (s n : ℕ) → n ≤ s → advanced s (Numbered n) ≡ Done
passes s n h = rw (le-leb n s h)

module _ {J : Type 0} where
  abbrev pub blocks : ℕ → ℕ → (d a b e : List (Callback J)) → List (Labelled J)
  blocks n m d a b e = marked Done d ++ (marked (Numbered n) a ++ (marked (Numbered m) b ++ marked Bare e))

  pub cut-as : (n m : ℕ) (d a b e : List (Callback J)) (i j k : ℕ) (cs : List (Callback J)) → length d ≡ i → length a ≡ j → length b ≡ k → cs ≡ d ++ (a ++ (b ++ e)) → cut i j k n m cs ≡ blocks n m d a b e
  cut-as n m d a b e i j k cs p q r w = rw w (rw (take_at d (a ++ (b ++ e)) i p, drop_at d (a ++ (b ++ e)) i p, take_at a (b ++ e) j q, drop_at a (b ++ e) j q, take_at b e k r, drop_at b e k r) refl)

  pub cut-blocks : (n m : ℕ) (d a b e : List (Callback J)) → cut (length d) (length a) (length b) n m (d ++ (a ++ (b ++ e))) ≡ blocks n m d a b e
  cut-blocks n m d a b e = cut-as n m d a b e _ _ _ _ refl refl refl refl

  -- what holds of four lists in a row holds of a list and its bounds
  pub by_parts : (P : ℕ → ℕ → ℕ → List (Callback J) → Type 0) → ((d a b e : List (Callback J)) → P (length d) (length a) (length b) (d ++ (a ++ (b ++ e)))) → (i j k : ℕ) (cs : List (Callback J)) → i + j + k ≤ length cs → P i j k cs
  by_parts P h i j k cs le =
      let d : List (Callback J) = take i cs in
      let a : List (Callback J) = take j (drop i cs) in
      let b : List (Callback J) = take k (drop j (drop i cs)) in
      let e : List (Callback J) = drop k (drop j (drop i cs)) in
      let p : length d ≡ i = length-take-le i cs (omega arith) in
      let q : length a ≡ j = length-take-le j (drop i cs) (simp length-drop (omega arith)) in
      let r : length b ≡ k = length-take-le k (drop j (drop i cs)) (simp length-drop (omega arith)) in
      let w : d ++ (a ++ (b ++ e)) ≡ cs = ap (λ z. d ++ (a ++ z)) (take-append-drop k (drop j (drop i cs))) ∙ ap (λ z. d ++ z) (take-append-drop j (drop i cs)) ∙ take-append-drop i cs in
      let P1 : ℕ → Type 0 = λ z. P z j k cs in
      let P2 : ℕ → Type 0 = λ z. P (length d) z k cs in
      let P3 : ℕ → Type 0 = λ z. P (length d) (length a) z cs in
      let P4 : List (Callback J) → Type 0 = λ z. P (length d) (length a) (length b) z in
      subst P1 p (subst P2 q (subst P3 r (subst P4 w (h d a b e))))

  map-marked : (f : Label → Label) (l : Label) (cs : List (Callback J)) → map (relabel f) (marked l cs) ≡ marked (f l) cs
  map-marked f l [] = refl
  map-marked f l (c ∷ cs) = ap (λ xs. record { label = f l; callback = c } ∷ xs) (map-marked f l cs)

  marked-append : (l : Label) (xs ys : List (Callback J)) → marked l (xs ++ ys) ≡ marked l xs ++ marked l ys
  marked-append l xs ys = map-append (λ c. record { label = l; callback = c }) xs ys

  pub map-blocks : (f : Label → Label) (n m : ℕ) (d a b e : List (Callback J)) → map (relabel f) (blocks n m d a b e) ≡ marked (f Done) d ++ (marked (f (Numbered n)) a ++ (marked (f (Numbered m)) b ++ marked (f Bare) e))
  map-blocks f n m d a b e = simp (map-append (relabel {J = J} f), map-marked f)

  -- an empty segment's number does not matter
  pub no-second : (n m o i j k l : ℕ) (cs : List (Callback J)) → k ≡ 0 → l ≡ 0 → cut i j k n m cs ≡ cut i j l n o cs
  no-second n m o i j k l cs p q = rw (p, q) refl

  pub no-first : (n m o i j k l : ℕ) (cs : List (Callback J)) → j ≡ 0 → k ≡ 0 → l ≡ 0 → cut i j k n m cs ≡ cut i l 0 o 0 cs
  no-first n m o i j k l cs p q r = rw (p, q, r) refl

  -- the front of those that are done
  pub cut-front : (n m i j k : ℕ) (xs ys : List (Callback J)) → cut (length xs + i) j k n m (xs ++ ys) ≡ marked Done xs ++ cut i j k n m ys
  cut-front n m i j k xs ys = rw (take-append-add xs ys i, drop-append-add xs ys i) (simp (marked-append Done, append_assoc))

  pub take-done : (A : Type 0) (r : Option (Callback J)) (n m i j k : ℕ) (old new : List (Callback J)) → 0 < i → i ≤ length old → old ≡ option_to_list r ++ new → new ≡ drop 1 old → MatchOption r A (λ c. cut i j k n m old ≡ marked Done (c ∷ []) ++ cut (i - 1) j k n m new)
  take-done A None n m i j k old new p le e f = absurd (let same = ap length e in let less = ap length f ∙ length-drop 1 old in omega arith)
  take-done A (Some c) n m i j k old new p le e f = rw e (ap (λ z. cut z j k n m (c ∷ new)) (let q : i ≡ 1 + (i - 1) = omega arith in q) ∙ cut-front n m (i - 1) j k (c ∷ []) new)

  -- one more at the end
  pub cut-push : (n m i j k : ℕ) (cs : List (Callback J)) (c : Callback J) → i + j + k ≤ length cs → cut i j k n m (cs ++ c ∷ []) ≡ cut i j k n m cs ++ record { label = Bare; callback = c } ∷ []
  cut-push n m i j k cs c = let P : ℕ → ℕ → ℕ → List (Callback J) → Type 0 = λ i j k cs. cut i j k n m (cs ++ c ∷ []) ≡ cut i j k n m cs ++ record { label = Bare; callback = c } ∷ [] in
      by_parts P (λ d a b e. cut-as n m d a b (e ++ c ∷ []) _ _ _ _ refl refl refl (simp append_assoc) ∙ rw (cut-blocks n m d a b e) (simp (marked-append Bare, append_assoc))) i j k cs

  -- some more at the end
  pub cut-join : (n m i j k : ℕ) (cs ds : List (Callback J)) → i + j + k ≤ length cs → cut i j k n m (cs ++ ds) ≡ cut i j k n m cs ++ marked Bare ds
  cut-join n m i j k cs ds = let P : ℕ → ℕ → ℕ → List (Callback J) → Type 0 = λ i j k cs. cut i j k n m (cs ++ ds) ≡ cut i j k n m cs ++ marked Bare ds in
      by_parts P (λ d a b e. cut-as n m d a b (e ++ ds) _ _ _ _ refl refl refl (simp append_assoc) ∙ rw (cut-blocks n m d a b e) (simp (marked-append Bare, append_assoc))) i j k cs

  -- the callbacks are those of the list
  callbacks-marked : (l : Label) (cs : List (Callback J)) → callbacks_of (marked l cs) ≡ cs
  callbacks-marked l [] = refl
  callbacks-marked l (c ∷ cs) = ap (λ xs. c ∷ xs) (callbacks-marked l cs)

  pub callbacks-cut : (n m i j k : ℕ) (cs : List (Callback J)) → i + j + k ≤ length cs → callbacks_of (cut i j k n m cs) ≡ cs
  callbacks-cut n m i j k cs = let P : ℕ → ℕ → ℕ → List (Callback J) → Type 0 = λ i j k cs. callbacks_of (cut i j k n m cs) ≡ cs in
      by_parts P (λ d a b e. ap callbacks_of (cut-blocks n m d a b e) ∙ simp (map-append (λ (x : Labelled J). x.callback), callbacks-marked)) i j k cs

  -- advance
  marked-same : (l k : Label) (cs : List (Callback J)) → (0 < length cs → l ≡ k) → marked l cs ≡ marked k cs
  marked-same l k [] h = refl
  marked-same l k (c ∷ cs) h = ap (λ x. marked x (c ∷ cs)) (h (omega arith))

  pub advance-none : (s n m i j k : ℕ) (cs : List (Callback J)) → s < n → (0 < k → n < m) → i + j + k ≤ length cs → cut i j k n m cs ≡ after_advance s (cut i j k n m cs)
  advance-none s n m i j k cs h o le = let P : ℕ → ℕ → ℕ → List (Callback J) → Type 0 = λ i j k cs. (0 < k → n < m) → cut i j k n m cs ≡ after_advance s (cut i j k n m cs) in
      by_parts P (λ d a b e o. rw (cut-blocks n m d a b e) (sym (map-blocks (advanced s) n m d a b e ∙ ap (λ l. marked Done d ++ (marked l a ++ (marked (advanced s (Numbered m)) b ++ marked Bare e))) (stays s n h) ∙ ap (λ x. marked Done d ++ (marked (Numbered n) a ++ (x ++ marked Bare e))) (marked-same _ _ b (λ p. stays s m (let q = o p in omega arith)))))) i j k cs le o

  pub advance-wait : (s n m i j k : ℕ) (cs : List (Callback J)) → n ≤ s → s < m → i + j + k ≤ length cs → cut (i + j) k 0 m 0 cs ≡ after_advance s (cut i j k n m cs)
  advance-wait s n m i j k cs h g = let P : ℕ → ℕ → ℕ → List (Callback J) → Type 0 = λ i j k cs. cut (i + j) k 0 m 0 cs ≡ after_advance s (cut i j k n m cs) in
      by_parts P (λ d a b e. cut-as m 0 (d ++ a) b [] e _ _ _ _ (length-append d a) refl refl (sym (append_assoc d a (b ++ e)))
      ∙ sym (ap (after_advance s) (cut-blocks n m d a b e) ∙ map-blocks (advanced s) n m d a b e ∙ rw (stays s m g, passes s n h) (simp (marked-append Done, append_assoc)))) i j k cs

  pub advance-all : (s n m i j k : ℕ) (cs : List (Callback J)) → n ≤ s → m ≤ s → i + j + k ≤ length cs → cut (i + j + k) 0 0 0 0 cs ≡ after_advance s (cut i j k n m cs)
  advance-all s n m i j k cs h g = let P : ℕ → ℕ → ℕ → List (Callback J) → Type 0 = λ i j k cs. cut (i + j + k) 0 0 0 0 cs ≡ after_advance s (cut i j k n m cs) in
      by_parts P (λ d a b e. cut-as 0 0 ((d ++ a) ++ b) [] [] e _ _ _ _ (length-append (d ++ a) b ∙ ap (λ z. z + length b) (length-append d a)) refl refl (simp append_assoc)
      ∙ sym (ap (after_advance s) (cut-blocks n m d a b e) ∙ map-blocks (advanced s) n m d a b e ∙ rw (passes s n h, passes s m g) (simp (marked-append Done, append_assoc)))) i j k cs

  -- given: the bare ones join the second number
  pub give-second : (s n m i j k : ℕ) (cs : List (Callback J)) → (0 < k → m ≡ s) → i + j + k ≤ length cs → cut i j (length cs - i - j) n s cs ≡ map (relabel (given s)) (cut i j k n m cs)
  give-second s n m i j k cs o le = let P : ℕ → ℕ → ℕ → List (Callback J) → Type 0 = λ i j k cs. (0 < k → m ≡ s) → cut i j (length cs - i - j) n s cs ≡ map (relabel (given s)) (cut i j k n m cs) in
      by_parts P (λ d a b e o. cut-as n s d a (b ++ e) [] _ _ _ _ refl refl (simp length-append (omega arith)) (simp append-nil)
      ∙ sym (ap (map (relabel (given s))) (cut-blocks n m d a b e) ∙ map-blocks (given s) n m d a b e ∙ ap (λ x. marked Done d ++ (marked (Numbered n) a ++ (x ++ marked (Numbered s) e))) (marked-same (Numbered m) (Numbered s) b (λ p. ap Numbered (o p))) ∙ simp (marked-append (Numbered s), append-nil))) i j k cs le o

  -- given: the bare ones join the first number
  pub give-first : (s n m i j k : ℕ) (cs : List (Callback J)) → (0 < j → n ≡ s) → k ≡ 0 → i + j + k ≤ length cs → cut i (length cs - i) 0 s 0 cs ≡ map (relabel (given s)) (cut i j k n m cs)
  give-first s n m i j k cs o z le = let P : ℕ → ℕ → ℕ → List (Callback J) → Type 0 = λ i j k cs. (0 < j → n ≡ s) → k ≡ 0 → cut i (length cs - i) 0 s 0 cs ≡ map (relabel (given s)) (cut i j k n m cs) in
      by_parts P (λ d a b e o z. elim b as (λ b. length b ≡ 0 → cut (length d) (length (d ++ (a ++ (b ++ e))) - length d) 0 s 0 (d ++ (a ++ (b ++ e))) ≡ map (relabel (given s)) (cut (length d) (length a) (length b) n m (d ++ (a ++ (b ++ e))))) [
        | [] ↦ λ _. cut-as s 0 d (a ++ e) [] [] _ _ _ _ refl (simp length-append (omega arith)) refl (simp append-nil)
            ∙ sym (ap (map (relabel (given s))) (cut-blocks n m d a [] e) ∙ map-blocks (given s) n m d a [] e ∙ ap (λ x. marked Done d ++ (x ++ marked (Numbered s) e)) (marked-same (Numbered n) (Numbered s) a (λ p. ap Numbered (o p))) ∙ simp (marked-append (Numbered s), append-nil))
        | c ∷ b ↦ λ z. absurd (omega arith)
      ] z) i j k cs le o z

  pub take-front : (n m i j k t : ℕ) (cs : List (Callback J)) → t ≤ i → i + j + k ≤ length cs → cut i j k n m cs ≡ marked Done (take t cs) ++ cut (i - t) j k n m (drop t cs)
  take-front n m i j k t cs p le = let e : i ≡ length (take t cs) + (i - t) = rw (length-take-le t cs (omega arith)) (omega arith) in
      ap (λ z. cut i j k n m z) (sym (take-append-drop t cs)) ∙ ap (λ z. cut z j k n m (take t cs ++ drop t cs)) e ∙ cut-front n m (i - t) j k (take t cs) (drop t cs)

  -- the first one of those that are done
  pub first-done : (n m i j k : ℕ) (cs : List (Callback J)) (c : Callback J) → 0 < i → i + j + k ≤ length cs → c ≡ get_or cs 0 c → (rest : List (Labelled J)) × (cut i j k n m cs ≡ marked Done (c ∷ []) ++ rest)
  first-done n m i j k [] c p le e = absurd (omega arith)
  first-done n m i j k (x ∷ cs) c p le e = (cut (i - 1) j k n m cs, take-front n m i j k 1 (x ∷ cs) (omega arith) le ∙ ap (λ y. marked Done (y ∷ []) ++ cut (i - 1) j k n m cs) (sym e))
