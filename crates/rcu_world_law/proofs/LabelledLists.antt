-- A labelled list stays one when it is advanced, accelerated, added to at its end and taken from at its front.
use Rattle.std.proofs.Common.{◌≡◌, ℕ, zero, suc, ◌≤◌, List, [], ◌∷◌, ◌++◌, drop, map, refl, sym, subst, arith, Bool, inl, inr, true, false, not, ◌==◌, cond, nat_lt, nat_le}
use Rattle.std.specs.List.{AllByRecursion}
use Rattle.std.proofs.lemmas.Bool.{or_parts, eqb-true, leb-true, leb-false, ltb-false}
use Rattle.rcu_world_law.specs.declared.labels.Label.{Label}
use Rattle.rcu_world_law.specs.declared.labels.Label.TheVariants.{Done, At, Bare}
use Rattle.rcu_world_law.specs.Calls.{Call}
use Rattle.rcu_numbers.specs.Numbers.{snap_of}
use Rattle.rcu_world_law.specs.Lists.{tail}
use Rattle.rcu_world_law.specs.LabelledLists.{Labelled, IsBefore, AreInOrder, IsOneOf, IsUpTo, IsLabelledList, MayAccelerate, bare, advanced_label, accelerated_label, relabelled, advance, is_below, number_of, has_other, has_two, accelerate}
use Rattle.rcu_world_law.specs.Invariant.{IsLabelFor, IsLabelledAt}

-- a fact on each label, after all were changed
pub all_relabelled : (P Q : Label → Type 0) (f : Label → Label) → ((l : Label) → P l → Q (f l)) → (ws : List Labelled) → AllByRecursion (λ w. P w.label) ws → AllByRecursion (λ w. Q w.label) (map (relabelled f) ws)
all_relabelled P Q f h [] a = tt
all_relabelled P Q f h (w ∷ ws) a = (h w.label a.0, all_relabelled P Q f h ws a.1)

all_labels : (P Q : Label → Type 0) → ((l : Label) → P l → Q l) → (ws : List Labelled) → AllByRecursion (λ w. P w.label) ws → AllByRecursion (λ w. Q w.label) ws
all_labels P Q h [] a = tt
all_labels P Q h (w ∷ ws) a = (h w.label a.0, all_labels P Q h ws a.1)

pub snap_later : (s t : ℕ) → s ≤ t → snap_of s ≤ snap_of t
snap_later s t l = omega arith

pub up_to_later : (s t : ℕ) → s ≤ t → (l : Label) → IsUpTo s l → IsUpTo t l
up_to_later s t l Done a = tt
up_to_later s t l (At m) a = omega arith
up_to_later s t l Bare a = tt

-- Order.

module _ (P : Label → Type 0) (f : Label → Label) (h : (a b : Label) → P a → P b → IsBefore a b → IsBefore (f a) (f b)) where
  before_relabelled : (l : Label) (ws : List Labelled) → P l → AllByRecursion (λ w. P w.label) ws → AllByRecursion (λ v. IsBefore l v.label) ws
      → AllByRecursion (λ v. IsBefore (f l) v.label) (map (relabelled f) ws)
  before_relabelled l [] p ps a = tt
  before_relabelled l (w ∷ ws) p ps a = (h l w.label p ps.0 a.0, before_relabelled l ws p ps.1 a.1)

  order_relabelled : (ws : List Labelled) → AllByRecursion (λ w. P w.label) ws → AreInOrder ws → AreInOrder (map (relabelled f) ws)
  order_relabelled [] ps a = tt
  order_relabelled (w ∷ ws) ps a = (before_relabelled w.label ws ps.0 ps.1 a.0, order_relabelled ws ps.1 a.1)

two_advanced : (s m k : ℕ) (b d : Bool) → nat_le m s ≡ b → nat_le k s ≡ d → m ≤ k → IsBefore (cond b Done (At m)) (cond d Done (At k))
two_advanced s m k true d e f l = tt
two_advanced s m k false true e f l = absurd (omega (arith, leb-false m s e, leb-true k s f))
two_advanced s m k false false e f l = l

one_advanced : (m : ℕ) (b : Bool) → IsBefore (cond b Done (At m)) Bare
one_advanced m true = tt
one_advanced m false = tt

before_advanced : (s t : ℕ) (a b : Label) → IsUpTo t a → IsUpTo t b → IsBefore a b → IsBefore (advanced_label s a) (advanced_label s b)
before_advanced s t Done b p q l = tt
before_advanced s t (At m) Done p q l = absurd l
before_advanced s t (At m) (At k) p q l = two_advanced s m k (nat_le m s) (nat_le k s) refl refl l
before_advanced s t (At m) Bare p q l = one_advanced m (nat_le m s)
before_advanced s t Bare Done p q l = absurd l
before_advanced s t Bare (At k) p q l = absurd l
before_advanced s t Bare Bare p q l = tt

before_accelerated : (s : ℕ) (a b : Label) → IsUpTo s a → IsUpTo s b → IsBefore a b → IsBefore (accelerated_label s a) (accelerated_label s b)
before_accelerated s Done b p q l = tt
before_accelerated s (At m) Done p q l = absurd l
before_accelerated s (At m) (At k) p q l = l
before_accelerated s (At m) Bare p q l = p
before_accelerated s Bare Done p q l = absurd l
before_accelerated s Bare (At k) p q l = absurd l
before_accelerated s Bare Bare p q l = omega arith

before_bare : (l : Label) → IsBefore l Bare
before_bare Done = tt
before_bare (At m) = tt
before_bare Bare = tt

-- Two numbers.

one_of_chosen : (a b m : ℕ) (t : Bool) → IsOneOf a b (At m) → IsOneOf a b (cond t Done (At m))
one_of_chosen a b m true i = tt
one_of_chosen a b m false i = i

one_of_advanced : (s a b : ℕ) (l : Label) → IsOneOf a b l → IsOneOf a b (advanced_label s l)
one_of_advanced s a b Done i = tt
one_of_advanced s a b (At m) i = one_of_chosen a b m (nat_le m s) i
one_of_advanced s a b Bare i = tt

one_of_accelerated : (m s : ℕ) (l : Label) → IsOneOf m s l → IsOneOf m s (accelerated_label s l)
one_of_accelerated m s Done i = tt
one_of_accelerated m s (At k) i = i
one_of_accelerated m s Bare i = inr refl

same_number : (k m : ℕ) (b : Bool) → (k == m) ≡ b → not b ≡ false → k ≡ m
same_number k m true e n = eqb-true k m e
same_number k m false e n = absurd (let x : true ≡ false = n in cc)

-- a number that doesn't differ from m below s
one_of_below : (s m k : ℕ) (b : Bool) → nat_lt k s ≡ b → cond b (not (k == m)) false ≡ false → k ≤ s → IsOneOf m s (At k)
one_of_below s m k true e n l = inl (same_number k m (k == m) refl n)
one_of_below s m k false e n l = inr (omega (arith, ltb-false k s e))

one_of_other : (s m : ℕ) (l : Label) → cond (is_below s l) (not (number_of l == m)) false ≡ false → IsUpTo s l → IsOneOf m s l
one_of_other s m Done e u = tt
one_of_other s m (At k) e u = one_of_below s m k (nat_lt k s) refl e u
one_of_other s m Bare e u = tt

no_other : (s m : ℕ) (ws : List Labelled) → has_other s m ws ≡ false → AllByRecursion (λ w. IsUpTo s w.label) ws → AllByRecursion (λ w. IsOneOf m s w.label) ws
no_other s m [] e u = tt
no_other s m (w ∷ ws) e u =
    let b = or_parts (cond (is_below s w.label) (not (number_of w.label == m)) false) (has_other s m ws) e in
    (one_of_other s m w.label b.0 u.0, no_other s m ws b.1 u.1)

-- where no two numbers below s are there, the numbers are s and one other
record IsOneBeside (s : ℕ) (ws : List Labelled) : Type 0 where
  other : ℕ
  each : AllByRecursion (λ w. IsOneOf other s w.label) ws

beside_below : (s k : ℕ) (w : Labelled) (ws : List Labelled) (b : Bool) → nat_lt k s ≡ b → w.label ≡ At k → k ≤ s → cond b (has_other s k ws) (has_two s ws) ≡ false
    → AllByRecursion (λ w. IsUpTo s w.label) ws → (has_two s ws ≡ false → IsOneBeside s ws) → IsOneBeside s (w ∷ ws)
beside_below s k w ws true e l u n us more = record { other = k; each = (subst (IsOneOf k s) (sym l) (inl refl), no_other s k ws n us) }
beside_below s k w ws false e l u n us more =
    let m = more n in
    record { other = m.other; each = (subst (IsOneOf m.other s) (sym l) (inr (omega (arith, ltb-false k s e))), m.each) }

beside_first : (s : ℕ) (l : Label) (w : Labelled) (ws : List Labelled) → w.label ≡ l → cond (is_below s l) (has_other s (number_of l) ws) (has_two s ws) ≡ false → IsUpTo s l
    → AllByRecursion (λ w. IsUpTo s w.label) ws → (has_two s ws ≡ false → IsOneBeside s ws) → IsOneBeside s (w ∷ ws)
beside_first s Done w ws l n u us more = let m = more n in record { other = m.other; each = (subst (IsOneOf m.other s) (sym l) tt, m.each) }
beside_first s (At k) w ws l n u us more = beside_below s k w ws (nat_lt k s) refl l u n us more
beside_first s Bare w ws l n u us more = let m = more n in record { other = m.other; each = (subst (IsOneOf m.other s) (sym l) tt, m.each) }

one_beside : (s : ℕ) (ws : List Labelled) → has_two s ws ≡ false → AllByRecursion (λ w. IsUpTo s w.label) ws → IsOneBeside s ws
one_beside s [] n u = record { other = 0; each = tt }
one_beside s (w ∷ ws) n u = beside_first s w.label w ws refl n u.0 u.1 (λ m. one_beside s ws m u.1)

-- The whole list.

pub list_advanced : (s t : ℕ) (ws : List Labelled) → AllByRecursion (λ w. IsUpTo t w.label) ws → IsLabelledList ws → IsLabelledList (advance s ws)
list_advanced s t ws u i = record {
  order = order_relabelled (IsUpTo t) (advanced_label s) (before_advanced s t) ws u i.order;
  first = i.first;
  second = i.second;
  two = all_relabelled (IsOneOf i.first i.second) (IsOneOf i.first i.second) (advanced_label s) (one_of_advanced s i.first i.second) ws i.two;
}

list_chosen : (b : Bool) (s : ℕ) (ws : List Labelled) → has_two s ws ≡ b → AllByRecursion (λ w. IsUpTo s w.label) ws → IsLabelledList ws → IsLabelledList (cond b ws (map (relabelled (accelerated_label s)) ws))
list_chosen true s ws e u i = i
list_chosen false s ws e u i =
    let o = one_beside s ws e u in
    record {
      order = order_relabelled (IsUpTo s) (accelerated_label s) (before_accelerated s) ws u i.order;
      first = o.other;
      second = s;
      two = all_relabelled (IsOneOf o.other s) (IsOneOf o.other s) (accelerated_label s) (one_of_accelerated o.other s) ws o.each;
    }

pub list_accelerated : (s : ℕ) (ws : List Labelled) → MayAccelerate s ws → IsLabelledList ws → IsLabelledList (accelerate s ws)
list_accelerated s ws m i = list_chosen (has_two s ws) s ws refl m.numbers i

before_added : (l : Label) (ws : List Labelled) (cs : List Call) → AllByRecursion (λ v. IsBefore l v.label) ws → AllByRecursion (λ v. IsBefore l v.label) (ws ++ map bare cs)
before_added l [] [] a = tt
before_added l [] (c ∷ cs) a = (before_bare l, before_added l [] cs tt)
before_added l (w ∷ ws) cs a = (a.0, before_added l ws cs a.1)

order_added : (ws : List Labelled) (cs : List Call) → AreInOrder ws → AreInOrder (ws ++ map bare cs)
order_added [] [] a = tt
order_added [] (c ∷ cs) a = (before_added Bare [] cs tt, order_added [] cs tt)
order_added (w ∷ ws) cs a = (before_added w.label ws cs a.0, order_added ws cs a.1)

-- a fact on each that holds of bare ones
all_added : (P : Labelled → Type 0) → ((c : Call) → P (bare c)) → (ws : List Labelled) (cs : List Call) → AllByRecursion P ws → AllByRecursion P (ws ++ map bare cs)
all_added P h [] [] a = tt
all_added P h [] (c ∷ cs) a = (h c, all_added P h [] cs tt)
all_added P h (w ∷ ws) cs a = (a.0, all_added P h ws cs a.1)

all_dropped : {X : Type 0} (P : X → Type 0) (n : ℕ) (ws : List X) → AllByRecursion P ws → AllByRecursion P (drop n ws)
all_dropped P zero ws a = a
all_dropped P (suc n) [] a = a
all_dropped P (suc n) (w ∷ ws) a = all_dropped P n ws a.1

order_dropped : (n : ℕ) (ws : List Labelled) → AreInOrder ws → AreInOrder (drop n ws)
order_dropped zero ws a = a
order_dropped (suc n) [] a = a
order_dropped (suc n) (w ∷ ws) a = order_dropped n ws a.1

-- What always holds of the lists of the core.

pub labelled_nothing : (sight s : ℕ) → IsLabelledAt sight s []
labelled_nothing sight s = record { list = record { order = tt; first = 0; second = 0; two = tt }; due = tt; most = tt }

pub labelled_later : (sight s t : ℕ) (ws : List Labelled) → s ≤ t → IsLabelledAt sight s ws → IsLabelledAt sight t ws
labelled_later sight s t ws l i = record { list = i.list; due = i.due; most = all_labels (IsUpTo (snap_of s)) (IsUpTo (snap_of t)) (up_to_later (snap_of s) (snap_of t) (snap_later s t l)) ws i.most }

label_seen : (s t : ℕ) → s ≤ t → (stamp : ℕ) (l : Label) → IsLabelFor s stamp l → IsLabelFor t stamp l
label_seen s t o stamp Done d = omega arith
label_seen s t o stamp (At m) d = d
label_seen s t o stamp Bare d = tt

all_seen : (s t : ℕ) → s ≤ t → (ws : List Labelled) → AllByRecursion (λ w. IsLabelFor s w.call.stamp w.label) ws → AllByRecursion (λ w. IsLabelFor t w.call.stamp w.label) ws
all_seen s t o [] a = tt
all_seen s t o (w ∷ ws) a = (label_seen s t o w.call.stamp w.label a.0, all_seen s t o ws a.1)

pub labelled_seen : (sight t s : ℕ) (ws : List Labelled) → sight ≤ t → IsLabelledAt sight s ws → IsLabelledAt t s ws
labelled_seen sight t s ws l i = record { list = i.list; due = all_seen sight t l ws i.due; most = i.most }

pub labelled_added : (sight s : ℕ) (ws : List Labelled) (cs : List Call) → IsLabelledAt sight s ws → IsLabelledAt sight s (ws ++ map bare cs)
labelled_added sight s ws cs i = record {
  list = record { order = order_added ws cs i.list.order; first = i.list.first; second = i.list.second; two = all_added (λ w. IsOneOf i.list.first i.list.second w.label) (λ c. tt) ws cs i.list.two };
  due = all_added (λ w. IsLabelFor sight w.call.stamp w.label) (λ c. tt) ws cs i.due;
  most = all_added (λ w. IsUpTo (snap_of s) w.label) (λ c. tt) ws cs i.most;
}

pub labelled_dropped : (sight s n : ℕ) (ws : List Labelled) → IsLabelledAt sight s ws → IsLabelledAt sight s (drop n ws)
labelled_dropped sight s n ws i = record {
  list = record { order = order_dropped n ws i.list.order; first = i.list.first; second = i.list.second; two = all_dropped (λ w. IsOneOf i.list.first i.list.second w.label) n ws i.list.two };
  due = all_dropped (λ w. IsLabelFor sight w.call.stamp w.label) n ws i.due;
  most = all_dropped (λ w. IsUpTo (snap_of s) w.label) n ws i.most;
}

pub labelled_tail : (sight s : ℕ) (ws : List Labelled) → IsLabelledAt sight s ws → IsLabelledAt sight s (tail ws)
labelled_tail sight s [] i = i
labelled_tail sight s (w ∷ ws) i = record { list = record { order = i.list.order.1; first = i.list.first; second = i.list.second; two = i.list.two.1 }; due = i.due.1; most = i.most.1 }
