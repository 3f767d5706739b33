-- The claims of a processor and of its hand, in the order of their numbers
use Rattle.std.proofs.Common.{◌≡◌, ◌≢◌, ℕ, ◌+◌, ◌<◌, ◌≤◌, Bool, true, false, cond, eq-eqb, ne_eqb, List, [], ◌∷◌, ◌++◌, length, sym, ap, ◌∙◌, refl, arith, get_or}
use Rattle.std.proofs.lemmas.Bool.Decides.{nat_tests}
use Rattle.rcu_part_order.specs.Places.{Accepted, Numbered, with_number, numbered, Move, claimed_of, put_of, moved, Placed}
use Rattle.rcu_part_order.specs.Order.{is_number, times, between, Remaining, Next}
use Rattle.rcu_part_order.specs.Order.Next.{first_own, first_hands}

pub counted_same : (j : ℕ) (t : Numbered) → t.number ≡ j → is_number j t ≡ 1
counted_same j t e = ap (λ b. cond b 1 0) (eq-eqb t.number j e)

pub counted_other : (j : ℕ) (t : Numbered) → t.number ≢ j → is_number j t ≡ 0
counted_other j t e = ap (λ b. cond b 1 0) (ne_eqb t.number j e)

pub times-append : (j : ℕ) (xs ys : List Numbered) → times j (xs ++ ys) ≡ times j xs + times j ys
times-append j [] ys = omega arith
times-append j (x ∷ xs) ys = let r = times-append j xs ys in omega arith

-- numbers below the first one are not there
early : (j k : ℕ) (acc : List Accepted) → j < k → times j (numbered k acc) ≡ 0
early j k [] lt = refl
early j k (x ∷ acc) lt = let r = early j (k + 1) acc (omega arith) in let h = counted_other j (with_number k x) (λ e. absurd (omega (arith, e))) in omega arith

claimed_fewer : (j : ℕ) (ms : List Move) → times j (claimed_of ms) ≤ times j (moved ms)
claimed_fewer j [] = omega arith
claimed_fewer j (m ∷ ms) = let r = claimed_fewer j ms in
    let P : Bool → Type 0 = λ b. times j (cond b (m.what ∷ claimed_of ms) (claimed_of ms)) ≤ is_number j m.what + times j (moved ms) in
    elim m.claimed as P [ true ↦ omega arith | false ↦ omega arith ]

between_next : (k m j : ℕ) (t : Numbered) → t.number ≡ k → k < m → between k m j ≡ is_number j t + between (k + 1) m j
between_next k m j t e lt = grind (arith, nat_tests)

pub nothing_there : (xs : List Numbered) → ((j : ℕ) → times j xs ≡ 0) → xs ≡ []
nothing_there [] h = refl
nothing_there (x ∷ xs) h = let a = h x.number in let b = counted_same x.number x refl in absurd (omega arith)

between_none : (m j : ℕ) → between m m j ≡ 0
between_none m j = grind (arith, nat_tests)

all_put : (ms : List Move) → claimed_of ms ≡ [] → put_of ms ≡ moved ms
all_put [] e = refl
all_put (m ∷ ms) e =
    let P : Bool → Type 0 = λ b. cond b (m.what ∷ claimed_of ms) (claimed_of ms) ≡ [] → cond b (put_of ms) (m.what ∷ put_of ms) ≡ m.what ∷ moved ms in
    (elim m.claimed as P [ true ↦ λ h. absurd (omega (arith, ap length h)) | false ↦ λ h. ap (λ l. m.what ∷ l) (all_put ms h) ]) e

-- at the end nothing is left to be merged, and the others are all
pub merged : (m : ℕ) (acc : List Accepted) (a b back held : List Numbered) → Remaining m m acc a b back held → (a ≡ []) × (b ≡ []) × (numbered m acc ≡ back ++ held)
merged m acc a b back held r =
    let a_none : a ≡ [] = nothing_there a (λ j. let c = r.once j in let z = between_none m j in omega arith) in
    let b_none : b ≡ [] = nothing_there b (λ j. let c = r.once j in let z = between_none m j in omega arith) in
    (a_none, b_none, r.all ∙ ap (λ l. l ++ held) (sym (all_put r.moves (r.own_is ∙ a_none)) ∙ (r.put_is ∙ ap (λ l. l ++ back) b_none)))

tail : List Numbered → List Numbered
tail [] = []
tail (x ∷ xs) = xs

pub tail-cons : (x y : Numbered) (xs ys : List Numbered) → x ∷ xs ≡ y ∷ ys → xs ≡ ys
unfolding tail
tail-cons x y xs ys e = ap tail e

pub head-cons : (x y : Numbered) (xs ys : List Numbered) → x ∷ xs ≡ y ∷ ys → x ≡ y
head-cons x y xs ys e = ap (λ (l : List Numbered). get_or l 0 x) e

between_one : (k m : ℕ) → k < m → between k m k ≡ 1
between_one k m lt = grind (arith, nat_tests)

-- the first that moved was claimed
case_a : (m k : ℕ) (x : Accepted) (acc : List Accepted) (a b back held : List Numbered) (t : Numbered) (ms : List Move) → k < m → t ≡ with_number k x → numbered (k + 1) acc ≡ moved ms ++ held
    → t ∷ claimed_of ms ≡ a → put_of ms ≡ b ++ back → ((j : ℕ) → times j a + times j b ≡ between k m j) → Next m k (x ∷ acc) a b back held
case_a m k x acc a b back held t ms lt is all own_is put_is once =
    first_own x acc (claimed_of ms) refl (sym own_is ∙ ap (λ z. z ∷ claimed_of ms) is) record {
      moves = ms;
      all = all;
      own_is = refl;
      put_is = put_is;
      once = λ j. let c = once j in let n = between_next k m j t (ap (λ (z : Numbered). z.number) is) lt in let e = ap (times j) own_is in omega arith;
    }

-- the first that moved was put
case_b : (m k : ℕ) (x : Accepted) (acc : List Accepted) (a b back held : List Numbered) (t : Numbered) (ms : List Move) → k < m → t ≡ with_number k x → numbered (k + 1) acc ≡ moved ms ++ held
    → claimed_of ms ≡ a → t ∷ put_of ms ≡ b ++ back → ((j : ℕ) → times j a + times j b ≡ between k m j) → Next m k (x ∷ acc) a b back held
case_b m k x acc a [] back held t ms lt is all own_is put_is once =
    let z = early k (k + 1) acc (omega arith) in
    let y = ap (times k) all ∙ times-append k (moved ms) held in
    let f = claimed_fewer k ms in
    let e = ap (times k) own_is in
    let c = once k in
    let one = between_one k m lt in absurd (omega arith)
case_b m k x acc a (u ∷ b') back held t ms lt is all own_is put_is once =
    let z = early k (k + 1) acc (omega arith) in
    let y = ap (times k) all ∙ times-append k (moved ms) held in
    let f = claimed_fewer k ms in
    let e = ap (times k) own_is in
    let same : t ≡ u = head-cons t u (put_of ms) (b' ++ back) put_is in
    first_hands x acc b' refl (ap (λ z. z ∷ b') (sym same ∙ is)) (omega arith) record {
      moves = ms;
      all = all;
      own_is = own_is;
      put_is = tail-cons t u (put_of ms) (b' ++ back) put_is;
      once = λ j. let c = once j in let n = between_next k m j t (ap (λ (z : Numbered). z.number) is) lt in let h = ap (is_number j) same in omega arith;
    }

next_of : (m k : ℕ) (acc : List Accepted) (a b back held : List Numbered) (ms : List Move) → k < m → numbered k acc ≡ moved ms ++ held → claimed_of ms ≡ a → put_of ms ≡ b ++ back
    → ((j : ℕ) → times j a + times j b ≡ between k m j) → Next m k acc a b back held
next_of m k acc a [] back held [] lt all own_is put_is once = let e = ap (times k) own_is in let c = once k in let one = between_one k m lt in absurd (omega arith)
next_of m k acc a (u ∷ b') back held [] lt all own_is put_is once = absurd (omega (arith, ap length put_is))
next_of m k [] a b back held (mv ∷ ms) lt all own_is put_is once = absurd (omega (arith, ap length all))
next_of m k (x ∷ acc) a b back held (mv ∷ ms) lt all own_is put_is once =
    let head : mv.what ≡ with_number k x = sym (head-cons _ _ _ _ all) in
    let rest : numbered (k + 1) acc ≡ moved ms ++ held = tail-cons _ _ _ _ all in
    let P : Bool → Type 0 = λ c. cond c (mv.what ∷ claimed_of ms) (claimed_of ms) ≡ a → cond c (put_of ms) (mv.what ∷ put_of ms) ≡ b ++ back → Next m k (x ∷ acc) a b back held in
    (elim mv.claimed as P [
      | true ↦ λ ea eb. case_a m k x acc a b back held mv.what ms lt head rest ea eb once
      | false ↦ λ ea eb. case_b m k x acc a b back held mv.what ms lt head rest ea eb once
    ]) own_is put_is

pub next : (m k : ℕ) (acc : List Accepted) (a b back held : List Numbered) → k < m → Remaining m k acc a b back held → Next m k acc a b back held
next m k acc a b back held lt r = next_of m k acc a b back held r.moves lt r.all r.own_is r.put_is r.once

-- the beginning
pub begins : (m : ℕ) (accepted : List Accepted) (ran put held hands back : List Numbered) → Placed accepted ran put held → put ≡ hands ++ back → ((j : ℕ) → times j ran + times j hands ≡ between 0 m j) → Remaining m 0 accepted ran hands back held
begins m accepted ran put held hands back p e once = record { moves = p.moves; all = p.all; own_is = p.ran_is; put_is = p.put_is ∙ e; once = once }
