-- Records of two lists as one, by their numbers
use Rattle.std.proofs.Common.{◌≡◌, ◌≢◌, ◌⊎◌, Contains, inl, inr, ℕ, zero, suc, ◌+◌, ◌<◌, ◌≤◌, Bool, true, false, cond, List, [], ◌∷◌, ◌++◌, length, sym, ap, ◌∙◌, refl, subst, arith, get_or}
use Rattle.std.specs.Option.{option_to_list}
use Rattle.std.specs.Prelude.{Option, Some, None, drop, nat_lt}
use Rattle.std.specs.List.{All}
use Rattle.std.proofs.lemmas.Bool.Decides.{nat_tests}
use Rattle.std.proofs.lemmas.List.Elements.{All-cons, All-head, All-tail, Contains-get_or}
use Rattle.rcu_jobs.specs.declared.callback.Record.{Record}
use Rattle.rcu_part_order.specs.Places.{Accepted, Numbered, with_number, numbered}
use Rattle.rcu_part_order.specs.Order.{Remaining, between, first_own, first_hands, times}
use Rattle.rcu_part_order.specs.Records.{AreOfBoth, before, by_number, is_hands_next, numbered_record, numbered_records}
use Rattle.rcu_part_order.proofs.Ordering.{counted_same, head-cons, merged, next, tail-cons}

below_is : (a b : ℕ) → a < b → nat_lt a b ≡ true
below_is a b h = grind (arith, nat_tests)

not_below : (a b : ℕ) → b ≤ a → nat_lt a b ≡ false
not_below a b h = grind (arith, nat_tests)

-- no number below the next one is counted
none_early : (k m j : ℕ) → j < k → between k m j ≡ 0
none_early k m j h = grind (arith, nat_tests)

-- a record's number is not below the next one
not_early : (m k : ℕ) (own hands : List Numbered) → ((j : ℕ) → times j own + times j hands ≡ between k m j) → (x : Numbered) (xs : List Numbered) → (own ≡ x ∷ xs) ⊎ (hands ≡ x ∷ xs) → x.number < k → ⊥
not_early m k own hands once x xs (inl e) low =
    let c = once x.number in let z = none_early k m x.number low in let s = counted_same x.number x refl in let t = ap (times x.number) e in absurd (omega (arith, c, z, s, t))
not_early m k own hands once x xs (inr e) low =
    let c = once x.number in let z = none_early k m x.number low in let s = counted_same x.number x refl in let t = ap (times x.number) e in absurd (omega (arith, c, z, s, t))

not_less : (a b : ℕ) → (a < b → ⊥) → b ≤ a
not_less a b never = omega (arith, never)

module _ {R : Type 0} where
  -- without the other list
  pub by_number_alone : (own : List (Record R)) → by_number own [] ≡ own
  by_number_alone [] = refl
  by_number_alone (r ∷ own) = ap (λ (l : List (Record R)). r ∷ l) (by_number_alone own)

  own_first : (r : Record R) (own hands : List (Record R)) → is_hands_next (r ∷ own) hands ≡ false → by_number (r ∷ own) hands ≡ r ∷ by_number own hands
  own_first r own [] e = refl
  own_first r own (h ∷ hands) e = ap (λ (b : Bool). cond b (h ∷ before r (by_number own) hands) (r ∷ by_number own (h ∷ hands))) e

  hands_first : (h : Record R) (own hands : List (Record R)) → is_hands_next own (h ∷ hands) ≡ true → by_number own (h ∷ hands) ≡ h ∷ by_number own hands
  hands_first h [] hands e = refl
  hands_first h (r ∷ own) hands e = ap (λ (b : Bool). cond b (h ∷ before r (by_number own) hands) (r ∷ by_number own (h ∷ hands))) e

  -- one pop of the list that is next
  pub popped_hands : (own hands left : List (Record R)) (o : Option (Record R)) → is_hands_next own hands ≡ true → hands ≡ option_to_list o ++ left → left ≡ drop 1 hands → by_number own hands ≡ option_to_list o ++ by_number own left
  popped_hands own [] left None e is d = ap (by_number own) (sym d)
  popped_hands own [] left (Some h) e is d = absurd (omega (arith, ap length is))
  popped_hands own (x ∷ xs) left None e is d = absurd (omega (arith, ap length (is ∙ d)))
  popped_hands own (x ∷ xs) left (Some h) e is d =
      let head : x ≡ h = ap (λ (l : List (Record R)). get_or l 0 x) is in
      hands_first x own xs e ∙ (ap (λ (y : Record R). y ∷ by_number own xs) head ∙ ap (λ (l : List (Record R)). h ∷ by_number own l) (sym d))

  pub popped_own : (own hands left : List (Record R)) (o : Option (Record R)) → is_hands_next own hands ≡ false → own ≡ option_to_list o ++ left → left ≡ drop 1 own → by_number own hands ≡ option_to_list o ++ by_number left hands
  popped_own [] hands left o e is d = (let f : true ≡ false = e in cc)
  popped_own (x ∷ xs) hands left None e is d = absurd (omega (arith, ap length (is ∙ d)))
  popped_own (x ∷ xs) hands left (Some r) e is d =
      let head : x ≡ r = ap (λ (l : List (Record R)). get_or l 0 x) is in
      own_first x xs hands e ∙ (ap (λ (y : Record R). y ∷ by_number xs hands) head ∙ ap (λ (l : List (Record R)). r ∷ by_number l hands) (sym d))

  all_before : (P : Record R → Type 0) (r : Record R) (rest : List (Record R) → List (Record R)) (hs : List (Record R)) → P r → ((ys : List (Record R)) → All P ys → All P (rest ys)) → All P hs → All P (before r rest hs)
  all_before P r rest [] p behind h = All-cons P r (rest []) p (behind [] h)
  all_before P r rest (x ∷ hs) p behind h =
      let Q : Bool → Type 0 = λ c. All P (cond c (x ∷ before r rest hs) (r ∷ rest (x ∷ hs))) in
      elim (nat_lt x.number r.number) as Q [
        | true ↦ All-cons P x (before r rest hs) (All-head P x hs h) (all_before P r rest hs p behind (All-tail P x hs h))
        | false ↦ All-cons P r (rest (x ∷ hs)) p (behind (x ∷ hs) h)
      ]

  -- what is so of the records of both is so of all
  pub all_by_number : (P : Record R → Type 0) (own hands : List (Record R)) → All P own → All P hands → All P (by_number own hands)
  all_by_number P [] hands a b = b
  all_by_number P (r ∷ own) hands a b = all_before P r (by_number own) hands (All-head P r own a) (λ ys h. all_by_number P own ys (All-tail P r own a) h) b

  pub of_both : (own hands : List (Record R)) → AreOfBoth own hands (by_number own hands)
  of_both own hands = all_by_number (λ r. Contains own r ⊎ Contains hands r) own hands (λ k d lt. inl (Contains-get_or own k d lt)) (λ k d lt. inr (Contains-get_or hands k d lt))

  own_is_next : (m k : ℕ) (r : Record R) (own hands : List (Record R)) → r.number ≡ k → ((j : ℕ) → times j (numbered_records (r ∷ own)) + times j (numbered_records hands) ≡ between k m j) → is_hands_next (r ∷ own) hands ≡ false
  own_is_next m k r own [] e once = refl
  own_is_next m k r own (h ∷ hands) e once = not_below h.number r.number (not_less h.number r.number (λ low. not_early m k (numbered_records (r ∷ own)) (numbered_records (h ∷ hands)) once (numbered_record h) (numbered_records hands) (inr refl) (omega (arith, low, e))))

  hands_are_next : (m k : ℕ) (h : Record R) (own hands : List (Record R)) → h.number ≡ k → times k (numbered_records own) ≡ 0 → ((j : ℕ) → times j (numbered_records own) + times j (numbered_records (h ∷ hands)) ≡ between k m j) → is_hands_next own (h ∷ hands) ≡ true
  hands_are_next m k h [] hands e none once = refl
  hands_are_next m k h (r ∷ own) hands e none once =
      let other : r.number ≢ k = λ same. let c = counted_same k (numbered_record r) same in absurd (omega (arith, c, none)) in
      let low : r.number < k → ⊥ = not_early m k (numbered_records (r ∷ own)) (numbered_records (h ∷ hands)) once (numbered_record r) (numbered_records own) (inl refl) in
      below_is h.number r.number (omega (arith, e, other, low))

  no_records : (rs : List (Record R)) → numbered_records rs ≡ [] → rs ≡ []
  no_records [] e = refl
  no_records (r ∷ rs) e = absurd (omega (arith, ap length e))

  -- what is in order from the next number on
  abbrev InOrder : ℕ → ℕ → List Numbered → List Numbered → List Accepted → List (Record R) → List (Record R) → Type 0
  InOrder m k back held acc own hands = Remaining m k acc (numbered_records own) (numbered_records hands) back held → numbered k acc ≡ numbered_records (by_number own hands) ++ (back ++ held)

  by_own : (m k : ℕ) (back held : List Numbered) (acc : List Accepted) (os hands : List (Record R)) (x : Accepted) (acc' : List Accepted) (left : List Numbered)
      → ((own : List (Record R)) → InOrder m (k + 1) back held acc' own hands) → acc ≡ x ∷ acc' → numbered_records os ≡ with_number k x ∷ left
      → ((j : ℕ) → times j (numbered_records os) + times j (numbered_records hands) ≡ between k m j) → Remaining m (k + 1) acc' left (numbered_records hands) back held
      → numbered k acc ≡ numbered_records (by_number os hands) ++ (back ++ held)
  by_own m k back held acc [] hands x acc' left later ea eo once rem = absurd (omega (arith, ap length eo))
  by_own m k back held acc (o ∷ os) hands x acc' left later ea eo once rem =
      let head = head-cons (numbered_record o) (with_number k x) (numbered_records os) left eo in
      let rest = later os (subst (λ (l : List Numbered). Remaining m (k + 1) acc' l (numbered_records hands) back held) (sym (tail-cons (numbered_record o) (with_number k x) (numbered_records os) left eo)) rem) in
      ap (numbered k) ea ∙ (ap (λ (l : List Numbered). with_number k x ∷ l) rest ∙ (ap (λ (y : Numbered). y ∷ (numbered_records (by_number os hands) ++ (back ++ held))) (sym head)
      ∙ ap (λ (l : List (Record R)). numbered_records l ++ (back ++ held)) (sym (own_first o os hands (own_is_next m k o os hands (ap (λ (y : Numbered). y.number) head) once)))))

  by_hands : (m k : ℕ) (back held : List Numbered) (acc : List Accepted) (own hs : List (Record R)) (x : Accepted) (acc' : List Accepted) (left : List Numbered)
      → ((hands : List (Record R)) → InOrder m (k + 1) back held acc' own hands) → acc ≡ x ∷ acc' → numbered_records hs ≡ with_number k x ∷ left → times k (numbered_records own) ≡ 0
      → ((j : ℕ) → times j (numbered_records own) + times j (numbered_records hs) ≡ between k m j) → Remaining m (k + 1) acc' (numbered_records own) left back held
      → numbered k acc ≡ numbered_records (by_number own hs) ++ (back ++ held)
  by_hands m k back held acc own [] x acc' left later ea eh none once rem = absurd (omega (arith, ap length eh))
  by_hands m k back held acc own (h ∷ hs) x acc' left later ea eh none once rem =
      let head = head-cons (numbered_record h) (with_number k x) (numbered_records hs) left eh in
      let rest = later hs (subst (λ (l : List Numbered). Remaining m (k + 1) acc' (numbered_records own) l back held) (sym (tail-cons (numbered_record h) (with_number k x) (numbered_records hs) left eh)) rem) in
      ap (numbered k) ea ∙ (ap (λ (l : List Numbered). with_number k x ∷ l) rest ∙ (ap (λ (y : Numbered). y ∷ (numbered_records (by_number own hs) ++ (back ++ held))) (sym head)
      ∙ ap (λ (l : List (Record R)). numbered_records l ++ (back ++ held)) (sym (hands_first h own hs (hands_are_next m k h own hs (ap (λ (y : Numbered). y.number) head) none once)))))

  -- the records in the order of their numbers are those of the accepted numbers, from the next one on
  in_order : (n m k : ℕ) (acc : List Accepted) (own hands : List (Record R)) (back held : List Numbered) → k + n ≡ m → InOrder m k back held acc own hands
  in_order zero m k acc own hands back held e r =
      let at : k ≡ m = omega (arith, e) in
      let end = merged m acc (numbered_records own) (numbered_records hands) back held (subst (λ (i : ℕ). Remaining m i acc (numbered_records own) (numbered_records hands) back held) at r) in
      ap (λ (i : ℕ). numbered i acc) at ∙ (end.2 ∙ sym (ap (λ (l : List Numbered). l ++ (back ++ held)) (ap numbered_records (ap (λ (l : List (Record R)). by_number l hands) (no_records own end.0) ∙ no_records hands end.1))))
  in_order (suc n) m k acc own hands back held e r =
      elim (next m k acc (numbered_records own) (numbered_records hands) back held (omega (arith, e)) r) [
        | first_own x acc' left ea eo rem ↦ by_own m k back held acc own hands x acc' left (λ os. in_order n m (k + 1) acc' os hands back held (omega (arith, e))) ea eo r.once rem
        | first_hands x acc' left ea eh none rem ↦ by_hands m k back held acc own hands x acc' left (λ hs. in_order n m (k + 1) acc' own hs back held (omega (arith, e))) ea eh none r.once rem
      ]

  -- from the first on
  pub all_in_order : (m : ℕ) (accepted : List Accepted) (own hands : List (Record R)) (back held : List Numbered) → Remaining m 0 accepted (numbered_records own) (numbered_records hands) back held
      → numbered 0 accepted ≡ numbered_records (by_number own hands) ++ (back ++ held)
  all_in_order m accepted own hands back held r = in_order m m 0 accepted own hands back held (omega arith) r
