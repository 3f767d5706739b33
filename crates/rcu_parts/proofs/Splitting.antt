-- The offloadable processors, split by group.
use Rattle.std.proofs.Common.{◌≡◌, ◌≢◌, ℕ, zero, suc, ◌+◌, ◌/◌, ◌<◌, ◌≤◌, Bool, true, false, not, cond, ltb, le-ltb, eq-eqb, ne_eqb, ◌&&◌, ◌||◌, List, [], ◌∷◌, ◌++◌, length, ap, sym, ◌∙◌, refl, subst, arith, inl, inr}
use Rattle.std.specs.Prelude.{◌==◌}
use Rattle.std.specs.List.{AllByRecursion}
use Rattle.std.proofs.Math.Nat.{div-le_self, div-mul-le_self}
use Rattle.std.proofs.lemmas.Nat.{le-div}
use Rattle.std.proofs.lemmas.Bool.{cases_Bool, lt-ltb, ltb-false, ltb-true}
use Rattle.rcu_board.specs.Opened.{has_offloadable, is_offloadable, numbers_where}
use Rattle.rcu_board.proofs.Rows.{where_no, where_none, where_yes}
use Rattle.rcu_parts.specs.Openings.{is_member}

-- ---- numbers that pass a test

pub where_same : (t u : ℕ → Bool) (p k : ℕ) → ((q : ℕ) → p ≤ q → q < p + k → t q ≡ u q) → numbers_where t p k ≡ numbers_where u p k
unfolding numbers_where
where_same t u p zero h = refl
where_same t u p (suc k) h = ap (λ b. cond b (p ∷ numbers_where t (suc p) k) (numbers_where t (suc p) k)) (h p (omega arith) (omega arith))
    ∙ ap (λ l. cond (u p) (p ∷ l) l) (where_same t u (suc p) k (λ q low high. h q (omega arith) (omega arith)))

pub where_empty : (t : ℕ → Bool) (p k : ℕ) → ((q : ℕ) → p ≤ q → q < p + k → t q ≡ false) → numbers_where t p k ≡ []
unfolding numbers_where
where_empty t p zero h = refl
where_empty t p (suc k) h = ap (λ b. cond b (p ∷ numbers_where t (suc p) k) (numbers_where t (suc p) k)) (h p (omega arith) (omega arith)) ∙ where_empty t (suc p) k (λ q low high. h q (omega arith) (omega arith))

passing : (P : ℕ → Type 0) (b : Bool) (p : ℕ) (l : List ℕ) → (b ≡ true → P p) → AllByRecursion P l → AllByRecursion P (cond b (p ∷ l) l)
passing P true p l h all = (h refl, all)
passing P false p l h all = all

-- each of them passes, and is none below the first
pub where_all : (P : ℕ → Type 0) (t : ℕ → Bool) (p k : ℕ) → ((q : ℕ) → p ≤ q → t q ≡ true → P q) → AllByRecursion P (numbers_where t p k)
unfolding numbers_where
where_all P t p zero h = tt
where_all P t p (suc k) h = passing P (t p) p (numbers_where t (suc p) k) (h p (omega arith)) (where_all P t (suc p) k (λ q low e. h q (omega arith) e))

few_more : (b : Bool) (p k : ℕ) (l : List ℕ) → length l ≤ k → length (cond b (p ∷ l) l) ≤ suc k
few_more true p k l h = omega arith
few_more false p k l h = omega arith

pub where_few : (t : ℕ → Bool) (p k : ℕ) → length (numbers_where t p k) ≤ k
unfolding numbers_where
where_few t p zero = omega arith
where_few t p (suc k) = few_more (t p) p k (numbers_where t (suc p) k) (where_few t (suc p) k)

-- ---- groups

-- The members of these groups, group by group, are these processors. Each group has one, and what follows begins with
-- one of another group.
abbrev pub StartsOutside : ℕ → ℕ → List ℕ → Type 0
StartsOutside stride g [] = Unit {0}
StartsOutside stride g (p ∷ ps) = p / stride ≢ g

abbrev pub AreGrouped : ℕ → ℕ → ℕ → List ℕ → List ℕ → Type 0
AreGrouped mask stride n [] ps = ps ≡ []
AreGrouped mask stride n (g ∷ gs) ps = (p : ℕ) × (others rest : List ℕ) × (numbers_where (is_member mask stride g) 0 n ≡ p ∷ others)
    × (ps ≡ (p ∷ others) ++ rest) × StartsOutside stride g rest × AreGrouped mask stride n gs rest

-- an offloadable processor of group g or of a later one
abbrev from_group : ℕ → ℕ → ℕ → ℕ → Bool
from_group mask stride g p = is_offloadable mask p && not (ltb (p / stride) g)

or_false : (a b : Bool) → (a || b) ≡ false → (a ≡ false) × (b ≡ false)
or_false true b e = absurd (let f : true ≡ false = e in cc)
or_false false b e = (refl, e)

no_group : (mask stride n g : ℕ) → has_offloadable mask stride n g ≡ false → numbers_where (is_member mask stride g) 0 n ≡ []
unfolding has_offloadable
no_group mask stride zero g e = where_none (is_member mask stride g)
no_group mask stride (suc n) g e = let both = or_false (has_offloadable mask stride n g) (is_member mask stride g n) e in let one : suc n ≡ n + 1 = omega arith in
    ap (numbers_where (is_member mask stride g) 0) one ∙ where_no (is_member mask stride g) n both.1 ∙ no_group mask stride n g both.0

abbrev IsSomeList : List ℕ → Type 0
IsSomeList l = (p : ℕ) × (ps : List ℕ) × (l ≡ p ∷ ps)

some_behind : (l : List ℕ) (p : ℕ) → IsSomeList (l ++ p ∷ [])
some_behind [] p = (p, [], refl)
some_behind (x ∷ xs) p = (x, xs ++ p ∷ [], refl)

or_left : (a b : Bool) → (a || b) ≡ true → b ≡ false → a ≡ true
or_left true b e f = refl
or_left false b e f = absurd (let h : true ≡ false = sym e ∙ f in cc)

some_group : (mask stride n g : ℕ) → has_offloadable mask stride n g ≡ true → IsSomeList (numbers_where (is_member mask stride g) 0 n)
unfolding has_offloadable
some_group mask stride zero g e = absurd (let f : false ≡ true = e in cc)
some_group mask stride (suc n) g e = let one : n + 1 ≡ suc n = omega arith in let t = is_member mask stride g in subst IsSomeList (ap (numbers_where t 0) one) (elim (cases_Bool (t n)) [
  | inl yes' ↦ subst IsSomeList (sym (where_yes t n yes')) (some_behind (numbers_where t 0 n) n)
  | inr no' ↦ subst IsSomeList (sym (where_no t n no')) (some_group mask stride n g (or_left (has_offloadable mask stride n g) (t n) e no'))
])

rises : (stride p q : ℕ) → 0 < stride → p ≤ q → p / stride ≤ q / stride
rises stride p q h low = le-div (p / stride) q stride h (let m = div-mul-le_self p stride in omega (arith, m))

-- ---- the tests of one processor, by where its group stands

and_no : (o b : Bool) → b ≡ false → (o && b) ≡ false
and_no true b e = e
and_no false b e = refl

and_yes : (o b : Bool) → b ≡ true → (o && b) ≡ o
and_yes true b e = e
and_yes false b e = refl

not_before : (o : Bool) (a g : ℕ) → g ≤ a → (o && not (ltb a g)) ≡ o
not_before o a g h = and_yes o (not (ltb a g)) (ap not (le-ltb a g h))

before : (o : Bool) (a g : ℕ) → a < g → (o && not (ltb a g)) ≡ false
before o a g h = and_no o (not (ltb a g)) (ap not (lt-ltb a g h))

inside : (o : Bool) (a g : ℕ) → a ≡ g → (o && (a == g)) ≡ o
inside o a g h = and_yes o (a == g) (eq-eqb a g h)

outside : (o : Bool) (a g : ℕ) → a ≢ g → (o && (a == g)) ≡ false
outside o a g h = and_no o (a == g) (ne_eqb a g h)

up_to : (o : Bool) (a g : ℕ) → a ≤ g → (o && not (ltb a g)) ≡ (o && (a == g))
up_to o a g h = elim (cases_Bool (ltb a g)) [
  | inl e ↦ let low = ltb-true a g e in before o a g low ∙ sym (outside o a g (λ same. omega (arith, same, low)))
  | inr e ↦ let high = ltb-false a g e in not_before o a g high ∙ sym (inside o a g (omega (arith, h, high)))
]

first_of : (b : Bool) (p : ℕ) (more few last : List ℕ) → more ≡ few ++ last → cond b (p ∷ more) more ≡ cond b (p ∷ few) few ++ last
first_of true p more few last e = ap (λ (l : List ℕ). p ∷ l) e
first_of false p more few last e = e

-- those of group g, and then those of later groups
split : (mask stride g p k : ℕ) → 0 < stride → numbers_where (from_group mask stride g) p k ≡ numbers_where (is_member mask stride g) p k ++ numbers_where (from_group mask stride (suc g)) p k
unfolding numbers_where
split mask stride g p zero h = refl
split mask stride g p (suc k) h = let o = is_offloadable mask in let a = p / stride in elim (cases_Bool (ltb g a)) [
  | inl e ↦ let far = ltb-true g a e in
      where_same (from_group mask stride g) (from_group mask stride (suc g)) p (suc k) (λ q low high. let r = rises stride p q h low in not_before (o q) (q / stride) g (omega (arith, r, far)) ∙ sym (not_before (o q) (q / stride) (suc g) (omega (arith, r, far))))
      ∙ ap (λ (l : List ℕ). l ++ numbers_where (from_group mask stride (suc g)) p (suc k)) (sym (where_empty (is_member mask stride g) p (suc k) (λ q low high. let r = rises stride p q h low in outside (o q) (q / stride) g (λ same. omega (arith, r, far, same)))))
  | inr e ↦ let near = ltb-false g a e in
      let M = numbers_where (is_member mask stride g) (suc p) k in let F = numbers_where (from_group mask stride (suc g)) (suc p) k in let W = numbers_where (from_group mask stride g) (suc p) k in
      ap (λ b. cond b (p ∷ W) W) (up_to (o p) a g near)
      ∙ first_of (is_member mask stride g p) p W M F (split mask stride g (suc p) k h)
      ∙ ap (λ (l : List ℕ). cond (is_member mask stride g p) (p ∷ M) M ++ l) (sym (ap (λ b. cond b (p ∷ F) F) (before (o p) a (suc g) (omega (arith, near)))))
]

later_outside : (stride g : ℕ) (l : List ℕ) → AllByRecursion (λ p. suc g ≤ p / stride) l → StartsOutside stride g l
later_outside stride g [] h = tt
later_outside stride g (p ∷ ps) h = λ same. let low = h.0 in omega (arith, same, low)

passes : (o : Bool) (a g : ℕ) → (o && not (ltb a g)) ≡ true → g ≤ a
passes o a g e = elim (cases_Bool (ltb a g)) [
  | inl t ↦ absurd (let f : true ≡ false = sym e ∙ and_no o (not (ltb a g)) (ap not t) in cc)
  | inr f ↦ ltb-false a g f
]

none_left : (mask stride n : ℕ) → numbers_where (from_group mask stride n) 0 n ≡ []
none_left mask stride n = where_empty (from_group mask stride n) 0 n (λ q low high. before (is_offloadable mask q) (q / stride) n (let d = div-le_self q stride in omega (arith, d, high)))

-- the groups from g on
groups_from : (mask stride n g k : ℕ) → 0 < stride → g + k ≡ n → AreGrouped mask stride n (numbers_where (has_offloadable mask stride n) g k) (numbers_where (from_group mask stride g) 0 n)
unfolding numbers_where
groups_from mask stride n g zero h e = let same : n ≡ g = omega (arith, e) in subst (λ j. numbers_where (from_group mask stride j) 0 n ≡ []) same (none_left mask stride n)
groups_from mask stride n g (suc k) h e = let has = has_offloadable mask stride n in let mine = numbers_where (is_member mask stride g) 0 n in let later = numbers_where (from_group mask stride (suc g)) 0 n in
    let next = groups_from mask stride n (suc g) k h (omega (arith, e)) in
    let cut = split mask stride g 0 n h in elim (cases_Bool (has g)) [
      | inl t ↦ let some = some_group mask stride n g t in
          subst (λ b. AreGrouped mask stride n (cond b (g ∷ numbers_where has (suc g) k) (numbers_where has (suc g) k)) (numbers_where (from_group mask stride g) 0 n)) (sym t) (
            some.0,
            some.1,
            later,
            some.2,
            cut ∙ ap (λ (l : List ℕ). l ++ later) some.2,
            later_outside stride g later (where_all (λ p. suc g ≤ p / stride) (from_group mask stride (suc g)) 0 n (λ q low pass. passes (is_offloadable mask q) (q / stride) (suc g) pass)),
            next,
          )
      | inr f ↦ subst (λ b. AreGrouped mask stride n (cond b (g ∷ numbers_where has (suc g) k) (numbers_where has (suc g) k)) (numbers_where (from_group mask stride g) 0 n)) (sym f)
          (subst (AreGrouped mask stride n (numbers_where has (suc g) k)) (sym (cut ∙ ap (λ (l : List ℕ). l ++ later) (no_group mask stride n g f))) next)
    ]

-- all groups, of all offloadable processors
pub all_groups : (mask stride n : ℕ) → 0 < stride → AreGrouped mask stride n (numbers_where (has_offloadable mask stride n) 0 n) (numbers_where (is_offloadable mask) 0 n)
all_groups mask stride n h = subst (AreGrouped mask stride n (numbers_where (has_offloadable mask stride n) 0 n))
    (where_same (from_group mask stride 0) (is_offloadable mask) 0 n (λ q low high. not_before (is_offloadable mask q) (q / stride) 0 (omega arith)))
    (groups_from mask stride n 0 n h (omega arith))
