-- Jobs that are dealt one after another.
use Rattle.std.proofs.Common.{◌≡◌, ◌≢◌, ℕ, zero, suc, ◌+◌, ◌%◌, ◌<◌, ◌==◌, ◌⊎◌, inl, inr, Bool, true, false, cond, List, [], ◌∷◌, ◌++◌, map, length, get_or, set, append-nil, ap, sym, ◌∙◌, subst, refl, arith}
use Rattle.std.specs.List.{enumerate_from, filter}
use Rattle.std.proofs.Common.{length-append}
use Rattle.std.proofs.Math.Nat.{mod-lt, suc-mod}
use Rattle.std.proofs.Math.Seq.{map-set_same}
use Rattle.std.proofs.lemmas.List.{get_or-map, get_or-set_other, get_or-set_same, length-map, length-set, map-append, map-set}
use Rattle.std.proofs.lemmas.List.Elements.{filter-append}
use Rattle.std.proofs.lemmas.Bool.Decides.{eqb_tells}
use Rattle.rcu_part_threads.specs.Dealing.{AreDealt, share}

module _ {J : Type 0} where
  places-append : (k : ℕ) (xs : List J) (x : J) → enumerate_from k (xs ++ x ∷ []) ≡ enumerate_from k xs ++ (k + length xs, x) ∷ []
  places-append k [] x = let e : k ≡ k + 0 = omega arith in ap (λ n. (n, x) ∷ []) e
  places-append k (y ∷ ys) x = let e : k + 1 + length ys ≡ k + (length (y ∷ ys)) = omega arith in ap (λ l. (k, y) ∷ l) (places-append (k + 1) ys x ∙ ap (λ n. enumerate_from (k + 1) ys ++ (n, x) ∷ []) e)

  abbrev turn : ℕ → ℕ → ℕ × J → Bool
  turn n p e = e.0 % n == p

  one_more : (n p k : ℕ) (x : J) (b : Bool) → (k % n == p) ≡ b → map (λ (e : ℕ × J). e.1) (filter (turn n p) ((k, x) ∷ [])) ≡ cond b (x ∷ []) []
  one_more n p k x true e = ap (λ c. map (λ (e : ℕ × J). e.1) (cond c ((k, x) ∷ []) [])) e
  one_more n p k x false e = ap (λ c. map (λ (e : ℕ × J). e.1) (cond c ((k, x) ∷ []) [])) e

  share-append : (n p : ℕ) (xs : List J) (x : J) (b : Bool) → (length xs % n == p) ≡ b → share n p (xs ++ x ∷ []) ≡ share n p xs ++ cond b (x ∷ []) []
  share-append n p xs x b e =
      ap (λ l. map (λ (e : ℕ × J). e.1) (filter (turn n p) l)) (places-append 0 xs x)
      ∙ (ap (map (λ (e : ℕ × J). e.1)) (filter-append (turn n p) (enumerate_from 0 xs) ((0 + length xs, x) ∷ []))
      ∙ (map-append (λ (e : ℕ × J). e.1) (filter (turn n p) (enumerate_from 0 xs)) (filter (turn n p) ((0 + length xs, x) ∷ []))
      ∙ ap (λ l. share n p xs ++ l) (one_more n p (0 + length xs) x b (ap (λ k. k % n == p) zero_plus ∙ e)))) where
        zero_plus : 0 + length xs ≡ length xs
        zero_plus = omega arith

  -- one more processor has no job
  pub none_more : (shares : List (List J)) → ((p : ℕ) → get_or shares p [] ≡ []) → (p : ℕ) → get_or (shares ++ [] ∷ []) p [] ≡ []
  none_more [] none zero = refl
  none_more [] none (suc p) = refl
  none_more (s ∷ shares) none zero = none zero
  none_more (s ∷ shares) none (suc p) = none_more shares (λ q. none (suc q)) p

  -- one more job is dealt to the processor whose turn it is
  pub dealt_more : (xs : List J) (x : J) (shares after : List (List J)) (k : ℕ) → k ≡ length xs % length shares → k < length shares → after ≡ set shares k (get_or shares k [] ++ x ∷ []) → length after ≡ length shares → AreDealt xs shares → AreDealt (xs ++ x ∷ []) after
  dealt_more xs x shares after k at within is many dealt p below =
      let there : p < length shares = omega (arith, below, many) in
      let n = length shares in
      ap (λ l. get_or l p []) is ∙ (here there (eqb_tells k p) ∙ ap (λ m. share m p (xs ++ x ∷ [])) (sym many)) where
        here : p < length shares → ((k == p) ≡ true) × (k ≡ p) ⊎ ((k == p) ≡ false) × (k ≢ p) → get_or (set shares k (get_or shares k [] ++ x ∷ [])) p [] ≡ share (length shares) p (xs ++ x ∷ [])
        here there (inl e) =
            ap (λ q. get_or (set shares k (get_or shares k [] ++ x ∷ [])) q []) (sym e.1)
            ∙ (get_or-set_same shares k (get_or shares k [] ++ x ∷ []) [] within
            ∙ (ap (λ q. get_or shares q [] ++ x ∷ []) e.1
            ∙ (ap (λ l. l ++ x ∷ []) (dealt p there)
            ∙ sym (share-append (length shares) p xs x true (ap (λ q. q == p) (sym at) ∙ e.0)))))
        here there (inr e) =
            get_or-set_other shares k p (get_or shares k [] ++ x ∷ []) [] (λ same. e.1 (sym same))
            ∙ (dealt p there
            ∙ (sym (append-nil (share (length shares) p xs))
            ∙ sym (share-append (length shares) p xs x false (ap (λ q. q == p) (sym at) ∙ e.0))))

module _ {A B : Type 0} (f : A → B) where
  -- one more, on both sides
  pub mapped_more : (xs ys : List A) (x : A) (done : List B) (y : B) → ys ≡ xs ++ x ∷ [] → map f xs ≡ done → f x ≡ y → map f ys ≡ done ++ y ∷ []
  mapped_more xs ys x done y pushed before same = ap (map f) pushed ∙ (map-append f xs (x ∷ []) ∙ (ap (λ l. l ++ f x ∷ []) before ∙ ap (λ z. done ++ z ∷ []) same))

-- one more processor, which has no job
pub none_pushed : {A J : Type 0} (own : A → List J) (xs ys : List A) (x : A) → ys ≡ xs ++ x ∷ [] → own x ≡ [] → ((p : ℕ) → get_or (map own xs) p [] ≡ []) → (p : ℕ) → get_or (map own ys) p [] ≡ []
none_pushed own xs ys x pushed empty none p = ap (λ l. get_or l p []) (mapped_more own xs ys x (map own xs) [] pushed refl empty) ∙ none_more (map own xs) none p

-- whose turn it is next
pub next_turn : {X : Type 0} (k m : ℕ) (done : List X) (x : X) → k ≡ length done % m → (k + 1) % m ≡ length (done ++ x ∷ []) % m
next_turn k m done x at =
    let one : k + 1 ≡ suc (length done % m) = omega (arith, at) in
    let more : suc (length done) ≡ length (done ++ x ∷ []) = omega (arith, length-append done (x ∷ [])) in
    ap (λ n. n % m) one ∙ (sym (suc-mod (length done) m) ∙ ap (λ n. n % m) more)

module _ {A J P : Type 0} (own : A → List J) (part : A → P) where
  -- the next job is dealt to the processor whose turn it is
  pub deal_step : (ps : List P) (xs : List J) (x : J) (cs : List A) (k m : ℕ) (old new : A) → 0 < m → m ≡ length ps → map part cs ≡ ps → k ≡ length xs % m → old ≡ get_or cs k old → part new ≡ part old → own new ≡ own old ++ x ∷ [] → AreDealt xs (map own cs)
      → (map part (set cs k new) ≡ ps) × AreDealt (xs ++ x ∷ []) (map own (set cs k new))
  deal_step ps xs x cs k m old new some all parts at is same adds dealt =
      let many : length cs ≡ m = sym (length-map cs part) ∙ (ap (λ l. length l) parts ∙ sym all) in
      let low : k < m = subst (λ n. n < m) (sym at) (mod-lt (length xs) some) in
      let below : k < length cs = omega (arith, low, many) in
      let shares : length (map own cs) ≡ m = length-map cs own ∙ many in
      let before : own old ≡ get_or (map own cs) k [] = ap own is ∙ sym (get_or-map own cs k old [] below) in (
        map-set_same part cs k new old (same ∙ ap part is) ∙ parts,
        dealt_more xs x (map own cs) (map own (set cs k new)) k (at ∙ ap (λ n. length xs % n) (sym shares)) (omega (arith, low, shares))
            (map-set own cs k new ∙ ap (λ l. set (map own cs) k l) (adds ∙ ap (λ l. l ++ x ∷ []) before))
            (length-map (set cs k new) own ∙ (length-set cs k new ∙ sym (length-map cs own))) dealt,
      )

-- where there are not none, there are some
pub some_of : (n : ℕ) → (n == 0) ≡ false → 0 < n
some_of zero e = let f : true ≡ false = e in cc
some_of (suc n) e = omega arith
