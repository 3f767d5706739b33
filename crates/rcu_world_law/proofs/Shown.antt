-- A labelled list shows at most two numbers.
use Rattle.std.proofs.Common.{◌≡◌, ℕ, ◌<◌, ◌≤◌, List, [], ◌∷◌, length, refl, subst, arith, Bool, true, false, ◌==◌, cond, inl, inr, ◌⊎◌}
use Rattle.std.specs.List.{AllByRecursion}
use Rattle.std.proofs.lemmas.Bool.{eqb-false}
use Rattle.rcu_world_law.specs.declared.labels.Label.{Label}
use Rattle.rcu_world_law.specs.declared.labels.Label.TheVariants.{Done, At, Bare}
use Rattle.rcu_world_law.specs.LabelledLists.{Labelled, IsBefore, AreInOrder, IsOneOf, IsLabelledList, with_number, numbers_in}

-- a fact on each number, where it holds of each label with a number
module _ (P : ℕ → Type 0) (Q : Label → Type 0) (h : (m : ℕ) → Q (At m) → P m) where
  all_chosen : (m n : ℕ) (ns : List ℕ) (b : Bool) → P m → AllByRecursion P (n ∷ ns) → AllByRecursion P (cond b (n ∷ ns) (m ∷ n ∷ ns))
  all_chosen m n ns true p a = a
  all_chosen m n ns false p a = (p, a)

  all_with : (l : Label) (ns : List ℕ) → Q l → AllByRecursion P ns → AllByRecursion P (with_number l ns)
  all_with Done ns q a = a
  all_with (At m) [] q a = (h m q, tt)
  all_with (At m) (n ∷ ns) q a = all_chosen m n ns (m == n) (h m q) a
  all_with Bare ns q a = a

  all_numbers : (ws : List Labelled) → AllByRecursion (λ w. Q w.label) ws → AllByRecursion P (numbers_in ws)
  all_numbers [] a = tt
  all_numbers (w ∷ ws) a = all_with w.label (numbers_in ws) a.0 (all_numbers ws a.1)

IsRising : List ℕ → Type 0
IsRising [] = Unit {0}
IsRising (n ∷ ns) = AllByRecursion (λ k. n < k) ns × IsRising ns

all_above : (m n : ℕ) (ns : List ℕ) → m < n → AllByRecursion (λ k. n < k) ns → AllByRecursion (λ k. m < k) ns
all_above m n [] l a = tt
all_above m n (k ∷ ns) l a = (omega (arith, a.0), all_above m n ns l a.1)

rising_chosen : (m n : ℕ) (ns : List ℕ) (b : Bool) → (m == n) ≡ b → m ≤ n → IsRising (n ∷ ns) → IsRising (cond b (n ∷ ns) (m ∷ n ∷ ns))
unfolding IsRising
rising_chosen m n ns true e l r = r
rising_chosen m n ns false e l r =
    let d : m ≡ n → ⊥ = eqb-false m n e in
    let below : m < n = omega arith in
    ((below, all_above m n ns below r.0), r)

rising_with : (l : Label) (ns : List ℕ) → ((m : ℕ) → l ≡ At m → AllByRecursion (λ k. m ≤ k) ns) → IsRising ns → IsRising (with_number l ns)
unfolding IsRising
rising_with Done ns least r = r
rising_with (At m) [] least r = (tt, tt)
rising_with (At m) (n ∷ ns) least r = rising_chosen m n ns (m == n) refl (least m refl).0 r
rising_with Bare ns least r = r

least_before : (m k : ℕ) → IsBefore (At m) (At k) → m ≤ k
least_before m k l = l

rising_numbers : (ws : List Labelled) → AreInOrder ws → IsRising (numbers_in ws)
unfolding IsRising
rising_numbers [] o = tt
rising_numbers (w ∷ ws) o = rising_with w.label (numbers_in ws)
    (λ m e. all_numbers (λ k. m ≤ k) (IsBefore (At m)) (least_before m) ws (subst (λ l. AllByRecursion (λ v. IsBefore l v.label) ws) e o.0)) (rising_numbers ws o.1)

abbrev IsEither : ℕ → ℕ → ℕ → Type 0
IsEither a b k = (k ≡ a) ⊎ (k ≡ b)

no_third : (a b x y z : ℕ) → IsEither a b x → IsEither a b y → IsEither a b z → x < y → y < z → ⊥
no_third a b x y z (inl e) (inl f) g l m = absurd (omega arith)
no_third a b x y z (inl e) (inr f) (inl g) l m = absurd (omega arith)
no_third a b x y z (inl e) (inr f) (inr g) l m = absurd (omega arith)
no_third a b x y z (inr e) (inl f) (inl g) l m = absurd (omega arith)
no_third a b x y z (inr e) (inl f) (inr g) l m = absurd (omega arith)
no_third a b x y z (inr e) (inr f) g l m = absurd (omega arith)

at_most_two : (a b : ℕ) (ns : List ℕ) → IsRising ns → AllByRecursion (IsEither a b) ns → length ns ≤ 2
unfolding IsRising
at_most_two a b [] r i = omega arith
at_most_two a b (x ∷ []) r i = omega arith
at_most_two a b (x ∷ y ∷ []) r i = omega arith
at_most_two a b (x ∷ y ∷ z ∷ ns) r i = absurd (no_third a b x y z i.0 i.1.0 i.1.1.0 r.0.0 r.1.0.0)

either_of : (a b m : ℕ) → IsOneOf a b (At m) → IsEither a b m
either_of a b m i = i

pub two_numbers : (ws : List Labelled) → IsLabelledList ws → length (numbers_in ws) ≤ 2
two_numbers ws i = at_most_two i.first i.second (numbers_in ws) (rising_numbers ws i.order)
    (all_numbers (IsEither i.first i.second) (IsOneOf i.first i.second) (either_of i.first i.second) ws i.two)
