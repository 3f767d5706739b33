-- Stamps that do not fall.
use Rattle.std.proofs.Common.{◌≡◌, ℕ, ◌+◌, ◌-◌, ◌<◌, ◌≤◌, zero, suc, Bool, true, false, List, [], ◌∷◌, ◌++◌, map, length, drop, get_or, Option, Some, None, refl, ap, sym, ◌∙◌, arith, length-drop, take, subst, add-one}
use Rattle.std.specs.Prelude.{All, MatchOption, nat_le, if◌then◌else◌, max}
use Rattle.std.proofs.lemmas.Bool.{le-leb, leb-true}
use Rattle.std.proofs.lemmas.List.{map-append, append-nil}
use Rattle.std.proofs.lemmas.List.Elements.{All-head, All-tail, All-nil, All-cons}
use Rattle.std.proofs.Math.Seq.{take-suc}
use Rattle.rcu_jobs.specs.declared.callback.Callback.{Callback}
use Rattle.rcu_lists.specs.Filled.{filled}
use Rattle.rcu_lists.specs.Stamps.{stamps_from, newest_of, greater, newer_of, last_stamp}
use Rattle.rcu_lists.proofs.Fills.{filled-append}

both : (x y : Bool) → (if x then y else false) ≡ true → (x ≡ true) × (y ≡ true)
both true y h = (refl, h)
both false y h = absurd cc

greater-left : (n : ℕ) (o : Option ℕ) → n ≤ greater n o
greater-left n None = omega arith
greater-left n (Some m) = omega arith

greater-right : (P : ℕ → Type 0) → ((a b : ℕ) → a ≤ b → P b → P a) → (n : ℕ) (o : Option ℕ) → P (greater n o) → MatchOption o (Unit {0}) P
greater-right P down n None h = tt
greater-right P down n (Some m) h = down m (max n m) (omega arith) h

greater-has : (P : ℕ → Type 0) → ((a b : ℕ) → P a → P b → P (max a b)) → (n : ℕ) (o : Option ℕ) → P n → MatchOption o (Unit {0}) P → P (greater n o)
greater-has P join n None p h = p
greater-has P join n (Some m) p h = join n m p h

swaps : (n m : ℕ) (o : Option ℕ) → Some (max n (greater m o)) ≡ Some (greater m (Some (greater n o)))
swaps n m None = ap Some (omega arith)
swaps n m (Some k) = ap Some (omega arith)

newer-append : (n : ℕ) (o p : Option ℕ) → greater n (newer_of o p) ≡ greater (greater n o) p
newer-append n None p = refl
newer-append n (Some m) None = refl
newer-append n (Some m) (Some k) = omega arith

newer-more : (stamp : Option ℕ) (n : ℕ) (o : Option ℕ) → newer_of stamp (Some (greater n o)) ≡ Some (greater n (newer_of stamp o))
newer-more None n o = refl
newer-more (Some m) n o = swaps m n o

module _ {J : Type 0} where
  firsts : (low : ℕ) (c : Callback J) (cs : List (Callback J)) → stamps_from low (c ∷ cs) ≡ true → (low ≤ c.stamp) × (stamps_from c.stamp cs ≡ true)
  firsts low c cs h = let p = both (nat_le low c.stamp) (stamps_from c.stamp cs) h in (leb-true low c.stamp p.0, p.1)

  starts : (low : ℕ) (c : Callback J) (cs : List (Callback J)) → low ≤ c.stamp → stamps_from c.stamp cs ≡ true → stamps_from low (c ∷ cs) ≡ true
  starts low c cs h k = rw (le-leb low c.stamp h) k

  lower : (low high : ℕ) (cs : List (Callback J)) → low ≤ high → stamps_from high cs ≡ true → stamps_from low cs ≡ true
  lower low high [] h k = refl
  lower low high (c ∷ cs) h k = let p = firsts high c cs k in starts low c cs (omega arith) p.1

  last-above : (low : ℕ) (cs : List (Callback J)) → stamps_from low cs ≡ true → low ≤ last_stamp low cs
  last-above low [] h = omega arith
  last-above low (c ∷ cs) h = let p = firsts low c cs h in let le = last-above c.stamp cs p.1 in omega (arith, p.0, le)

  pub stamps-drop : (low i : ℕ) (cs : List (Callback J)) → stamps_from low cs ≡ true → stamps_from low (drop i cs) ≡ true
  stamps-drop low zero cs h = h
  stamps-drop low (suc i) [] h = refl
  stamps-drop low (suc i) (c ∷ cs) h = let p = firsts low c cs h in lower low c.stamp (drop i cs) p.0 (stamps-drop c.stamp i cs p.1)

  pub stamps-push : (low : ℕ) (cs : List (Callback J)) (c : Callback J) → stamps_from low cs ≡ true → low ≤ c.stamp → All (λ (x : Callback J). x.stamp ≤ c.stamp) cs → stamps_from low (cs ++ c ∷ []) ≡ true
  stamps-push low [] c h k all = starts low c [] k refl
  stamps-push low (x ∷ cs) c h k all = let p = firsts low x cs h in starts low x (cs ++ c ∷ []) p.0 (stamps-push x.stamp cs c p.1 (All-head (λ (x : Callback J). x.stamp ≤ c.stamp) x cs all) (All-tail (λ (x : Callback J). x.stamp ≤ c.stamp) x cs all))

  -- the last one has the greatest stamp
  last : Callback J → List (Callback J) → Callback J
  last c [] = c
  last c (x ∷ cs) = last x cs

  last-get : (c d : Callback J) (cs : List (Callback J)) → get_or (c ∷ cs) (length cs) d ≡ last c cs
  unfolding last
  last-get c d [] = refl
  last-get c d (x ∷ cs) = last-get x d cs

  newest-last : (low : ℕ) (c : Callback J) (cs : List (Callback J)) → stamps_from low (c ∷ cs) ≡ true → (newest_of (c ∷ cs) ≡ Some (last c cs).stamp) × (low ≤ (last c cs).stamp)
  unfolding last
  newest-last low c [] h = (refl, (firsts low c [] h).0)
  newest-last low c (x ∷ cs) h = let p = firsts low c (x ∷ cs) h in let q = newest-last c.stamp x cs p.1 in
      (ap (λ o. Some (greater c.stamp o)) q.0 ∙ ap Some (omega arith), omega arith)

  pub newest-back : (cs : List (Callback J)) (c : Callback J) → stamps_from 0 cs ≡ true → 0 < length cs → c ≡ get_or cs (length cs - 1) c → newest_of cs ≡ Some c.stamp
  newest-back [] c h k e = absurd (omega arith)
  newest-back (x ∷ cs) c h k e = (newest-last 0 x cs h).0 ∙ ap (λ (y : Callback J). Some y.stamp) (sym (last-get x c cs) ∙ ap (λ i. get_or (x ∷ cs) i c) (omega arith) ∙ sym e)

  -- what holds of the greatest stamp, and of lesser ones with it, holds of all
  pub newest-all : (P : ℕ → Type 0) → ((a b : ℕ) → a ≤ b → P b → P a) → (cs : List (Callback J)) → MatchOption (newest_of cs) (Unit {0}) P → All (λ (c : Callback J). P c.stamp) cs
  newest-all P down [] h = All-nil (λ (c : Callback J). P c.stamp)
  newest-all P down (c ∷ cs) h = All-cons (λ (x : Callback J). P x.stamp) c cs (down c.stamp (greater c.stamp (newest_of cs)) (greater-left c.stamp (newest_of cs)) h) (newest-all P down cs (greater-right P down c.stamp (newest_of cs) h))

  pub newest-push : (cs : List (Callback J)) (c : Callback J) → newest_of (cs ++ c ∷ []) ≡ Some (greater c.stamp (newest_of cs))
  newest-push [] c = refl
  newest-push (x ∷ cs) c = ap (λ o. Some (greater x.stamp o)) (newest-push cs c) ∙ swaps x.stamp c.stamp (newest_of cs)

  -- the greatest stamp once one more is seen
  pub newest-more : {A : Type 0} (f : A → Callback J) (xs : List A) (x : A) (o : Option ℕ) → o ≡ newest_of (map f xs) → Some (greater (f x).stamp o) ≡ newest_of (map f (xs ++ x ∷ []))
  newest-more f xs x o e = sym (ap newest_of (map-append f xs (x ∷ [])) ∙ newest-push (map f xs) (f x) ∙ ap (λ z. Some (greater (f x).stamp z)) (sym e))

  -- what holds of all stamps holds of the greatest one
  pub newest-has : (P : ℕ → Type 0) → ((a b : ℕ) → P a → P b → P (max a b)) → (cs : List (Callback J)) → All (λ (c : Callback J). P c.stamp) cs → MatchOption (newest_of cs) (Unit {0}) P
  newest-has P join [] h = tt
  newest-has P join (c ∷ cs) h = greater-has P join c.stamp (newest_of cs) (All-head (λ (c : Callback J). P c.stamp) c cs h) (newest-has P join cs (All-tail (λ (c : Callback J). P c.stamp) c cs h))

  -- one list behind another
  pub last-append : (low : ℕ) (xs ys : List (Callback J)) → last_stamp low (xs ++ ys) ≡ last_stamp (last_stamp low xs) ys
  last-append low [] ys = refl
  last-append low (x ∷ xs) ys = last-append x.stamp xs ys

  pub stamps-append : (low : ℕ) (xs ys : List (Callback J)) → stamps_from low xs ≡ true → stamps_from (last_stamp low xs) ys ≡ true → stamps_from low (xs ++ ys) ≡ true
  stamps-append low [] ys h k = k
  stamps-append low (x ∷ xs) ys h k = let p = firsts low x xs h in starts low x (xs ++ ys) p.0 (stamps-append x.stamp xs ys p.1 k)

  pub newest-append : (xs ys : List (Callback J)) → newest_of (xs ++ ys) ≡ newer_of (newest_of xs) (newest_of ys)
  newest-append [] ys = refl
  newest-append (x ∷ xs) ys = ap (λ o. Some (greater x.stamp o)) (newest-append xs ys) ∙ ap Some (newer-append x.stamp (newest_of xs) (newest_of ys))

  -- the last stamp is the greatest of those that don't fall, also once the first ones are gone
  last-any : (a b : ℕ) (xs : List (Callback J)) → 0 < length xs → last_stamp a xs ≡ last_stamp b xs
  last-any a b [] h = absurd (omega arith)
  last-any a b (x ∷ xs) h = refl

  pub last-drop : (low t : ℕ) (xs : List (Callback J)) → t < length xs → last_stamp low (drop t xs) ≡ last_stamp low xs
  last-drop low zero xs h = refl
  last-drop low (suc t) [] h = absurd (omega arith)
  last-drop low (suc t) (x ∷ xs) h = last-any low x.stamp (drop t xs) (let l = length-drop t xs in omega arith) ∙ last-drop x.stamp t xs (omega arith)

  pub newest-ordered : (low : ℕ) (xs : List (Callback J)) → stamps_from low xs ≡ true → 0 < length xs → newest_of xs ≡ Some (last_stamp low xs)
  newest-ordered low [] h k = absurd (omega arith)
  newest-ordered low (x ∷ []) h k = refl
  newest-ordered low (x ∷ y ∷ xs) h k = let p = firsts low x (y ∷ xs) h in let q = firsts x.stamp y xs p.1 in
      ap (λ o. Some (greater x.stamp o)) (newest-ordered x.stamp (y ∷ xs) p.1 (omega arith)) ∙ ap Some (let le = last-above y.stamp xs q.1 in omega (arith, q.0, le))

  -- a walk over places: one place more
  pub order-more : (low : ℕ) (xs : List (Option (Callback J))) (c : Callback J) → stamps_from low (filled xs) ≡ true → last_stamp low (filled xs) ≤ c.stamp → stamps_from low (filled (xs ++ Some c ∷ [])) ≡ true
  order-more low xs c h k = rw (filled-append xs (Some c ∷ [])) (stamps-append low (filled xs) (c ∷ []) h (starts (last_stamp low (filled xs)) c [] k refl))

  pub last-more : (low : ℕ) (xs : List (Option (Callback J))) (c : Callback J) → last_stamp low (filled (xs ++ Some c ∷ [])) ≡ c.stamp
  last-more low xs c = ap (last_stamp low) (filled-append xs (Some c ∷ [])) ∙ last-append low (filled xs) (c ∷ [])

  pub newest-place : (stamp : Option ℕ) (xs : List (Option (Callback J))) (c : Callback J) → newer_of stamp (newest_of (filled (xs ++ Some c ∷ []))) ≡ Some (greater c.stamp (newer_of stamp (newest_of (filled xs))))
  newest-place stamp xs c = ap (λ l. newer_of stamp (newest_of l)) (filled-append xs (Some c ∷ [])) ∙ (ap (newer_of stamp) (newest-push (filled xs) c) ∙ newer-more stamp c.stamp (newest_of (filled xs)))

  more : (xs : List (Option (Callback J))) (i : ℕ) (p : Option (Callback J)) → i < length xs → p ≡ get_or xs i p → take (i + 1) xs ≡ take i xs ++ p ∷ []
  more xs i p h at = rw add-one (take-suc xs i p h ∙ ap (λ q. take i xs ++ q ∷ []) (sym at))

  newest-one : (stamp greatest new : Option ℕ) (xs : List (Option (Callback J))) (p : Option (Callback J)) → greatest ≡ newer_of stamp (newest_of (filled xs)) → MatchOption p (new ≡ greatest) (λ c. new ≡ Some (greater c.stamp greatest)) → new ≡ newer_of stamp (newest_of (filled (xs ++ p ∷ [])))
  newest-one stamp greatest new xs None h k = k ∙ (h ∙ ap (λ l. newer_of stamp (newest_of l)) (sym (filled-append xs (None ∷ []) ∙ append-nil (filled xs))))
  newest-one stamp greatest new xs (Some c) h k = k ∙ (ap (λ o. Some (greater c.stamp o)) h ∙ sym (newest-place stamp xs c))

  pub newest-step : (stamp greatest new : Option ℕ) (xs : List (Option (Callback J))) (i : ℕ) (p : Option (Callback J)) → i < length xs → p ≡ get_or xs i p → greatest ≡ newer_of stamp (newest_of (filled (take i xs)))
      → MatchOption p (new ≡ greatest) (λ c. new ≡ Some (greater c.stamp greatest)) → new ≡ newer_of stamp (newest_of (filled (take (i + 1) xs)))
  newest-step stamp greatest new xs i p lt at h k = rw (more xs i p lt at) (newest-one stamp greatest new (take i xs) p h k)

  -- what is known of the stamps of places behind a last one
  pub record Known (first still : Bool) (low newest : ℕ) (xs : List (Option (Callback J))) : Type 0 where
    pub order : still ≡ true → (first ≡ true) × (stamps_from low (filled xs) ≡ true)
    pub last : newest ≡ last_stamp low (filled xs)

  known-one : (first still goes : Bool) (low newest next : ℕ) (xs : List (Option (Callback J))) (p : Option (Callback J)) → Known first still low newest xs
      → MatchOption p ((goes ≡ still) × (next ≡ newest)) (λ c. (goes ≡ true → (still ≡ true) × (newest ≤ c.stamp)) × (next ≡ c.stamp)) → Known first goes low next (xs ++ p ∷ [])
  known-one first still goes low newest next xs None h k = let same = filled-append xs (None ∷ []) ∙ append-nil (filled xs) in record {
    order = rw same (λ e. h.order (sym k.0 ∙ e));
    last = rw same (k.1 ∙ h.last);
  }
  known-one first still goes low newest next xs (Some c) h k = record {
    order = λ e. let q = k.0 e in let p = h.order q.0 in (p.0, order-more low xs c p.1 (subst (λ n. n ≤ c.stamp) h.last q.1));
    last = k.1 ∙ sym (last-more low xs c);
  }

  pub known-step : (first still goes : Bool) (low newest next : ℕ) (xs : List (Option (Callback J))) (i : ℕ) (p : Option (Callback J)) → i < length xs → p ≡ get_or xs i p → Known first still low newest (take i xs)
      → MatchOption p ((goes ≡ still) × (next ≡ newest)) (λ c. (goes ≡ true → (still ≡ true) × (newest ≤ c.stamp)) × (next ≡ c.stamp)) → Known first goes low next (take (i + 1) xs)
  known-step first still goes low newest next xs i p lt at h k = rw (more xs i p lt at) (known-one first still goes low newest next (take i xs) p h k)
