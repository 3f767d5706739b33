-- What a look makes of a labelled list: the same callbacks, and a labelled list again, for which the condition of `accelerate` held.
use Rattle.std.proofs.Common.{◌≡◌, ℕ, ◌≤◌, max, List, [], ◌∷◌, ◌++◌, map, refl, ap, ◌∙◌, arith, Bool, true, false, cond, nat_le}
use Rattle.std.specs.List.{AllByRecursion}
use Rattle.std.proofs.lemmas.Bool.{leb-true}
use Rattle.rcu_world_law.specs.declared.marks.Mark.{Mark}
use Rattle.rcu_world_law.specs.declared.labels.Label.{Label}
use Rattle.rcu_world_law.specs.declared.labels.Label.TheVariants.{Done, At, Bare}
use Rattle.rcu_world_law.specs.Calls.{Call}
use Rattle.rcu_numbers.specs.Numbers.{snap_of}
use Rattle.rcu_world_law.specs.LabelledLists.{Labelled, IsUpTo, MayAccelerate, call_of, advanced_label, accelerated_label, relabelled, advance, has_two, accelerate, newest, looked}
use Rattle.rcu_world_law.specs.Invariant.{IsLabelFor, IsLabelledAt, IsStamped}
use Rattle.rcu_world_law.specs.States.{Cpu}
use Rattle.rcu_world_law.specs.Places.{flattened, stamped_callbacks}
use Rattle.rcu_world_law.proofs.LabelledLists.{all_relabelled, snap_later, up_to_later, list_advanced, list_accelerated}

calls_relabelled : (f : Label → Label) (ws : List Labelled) → map call_of (map (relabelled f) ws) ≡ map call_of ws
calls_relabelled f [] = refl
calls_relabelled f (w ∷ ws) = ap (λ x. w.call ∷ x) (calls_relabelled f ws)

calls_chosen : (b : Bool) (f : Label → Label) (ws : List Labelled) → map call_of (cond b ws (map (relabelled f) ws)) ≡ map call_of ws
calls_chosen true f ws = refl
calls_chosen false f ws = calls_relabelled f ws

pub calls_accelerate : (s : ℕ) (ws : List Labelled) → map call_of (accelerate s ws) ≡ map call_of ws
calls_accelerate s ws = calls_chosen (has_two s ws) (accelerated_label s) ws

-- the labels after an advance
due_number : (s stamp m : ℕ) → snap_of stamp ≤ m → (b : Bool) → nat_le m s ≡ b → IsLabelFor s stamp (cond b Done (At m))
due_number s stamp m d true e = omega (arith, leb-true m s e)
due_number s stamp m d false e = d

due_advanced : (sight s stamp : ℕ) (l : Label) → sight ≤ s → IsLabelFor sight stamp l → IsLabelFor s stamp (advanced_label s l)
due_advanced sight s stamp Done o d = omega arith
due_advanced sight s stamp (At m) o d = due_number s stamp m d (nat_le m s) refl
due_advanced sight s stamp Bare o d = tt

all_due_advanced : (sight s : ℕ) → sight ≤ s → (ws : List Labelled) → AllByRecursion (λ w. IsLabelFor sight w.call.stamp w.label) ws → AllByRecursion (λ w. IsLabelFor s w.call.stamp w.label) (advance s ws)
all_due_advanced sight s o [] a = tt
all_due_advanced sight s o (w ∷ ws) a = (due_advanced sight s w.call.stamp w.label o a.0, all_due_advanced sight s o ws a.1)

-- the labels after an acceleration to the snap of a bound on the stamps
due_accelerated : (s stamp b : ℕ) (l : Label) → stamp ≤ b → IsLabelFor s stamp l → IsLabelFor s stamp (accelerated_label (snap_of b) l)
due_accelerated s stamp b Done o d = d
due_accelerated s stamp b (At m) o d = d
due_accelerated s stamp b Bare o d = snap_later stamp b o

all_due_accelerated : (s b : ℕ) (ws : List Labelled) → AllByRecursion (λ w. w.call.stamp ≤ b) ws → AllByRecursion (λ w. IsLabelFor s w.call.stamp w.label) ws
    → AllByRecursion (λ w. IsLabelFor s w.call.stamp w.label) (map (relabelled (accelerated_label (snap_of b))) ws)
all_due_accelerated s b [] o a = tt
all_due_accelerated s b (w ∷ ws) o a = (due_accelerated s w.call.stamp b w.label o.0 a.0, all_due_accelerated s b ws o.1 a.1)

all_due_chosen : (t : Bool) (s b : ℕ) (ws : List Labelled) → AllByRecursion (λ w. w.call.stamp ≤ b) ws → AllByRecursion (λ w. IsLabelFor s w.call.stamp w.label) ws
    → AllByRecursion (λ w. IsLabelFor s w.call.stamp w.label) (cond t ws (map (relabelled (accelerated_label (snap_of b))) ws))
all_due_chosen true s b ws o a = a
all_due_chosen false s b ws o a = all_due_accelerated s b ws o a

-- the newest is at least each
pub newest_least : (s : ℕ) (ws : List Labelled) → s ≤ newest s ws
newest_least s [] = omega arith
newest_least s (w ∷ ws) = omega (arith, newest_least (max s w.call.stamp) ws)

all_newest : (s b : ℕ) (ws : List Labelled) → newest s ws ≤ b → AllByRecursion (λ w. w.call.stamp ≤ b) ws
all_newest s b [] l = tt
all_newest s b (w ∷ ws) l = (omega (arith, newest_least (max s w.call.stamp) ws), all_newest (max s w.call.stamp) b ws l)

pub due_looked : (sight s : ℕ) (ws : List Labelled) → sight ≤ s → AllByRecursion (λ w. IsLabelFor sight w.call.stamp w.label) ws
    → AllByRecursion (λ w. IsLabelFor s w.call.stamp w.label) (looked s ws)
due_looked sight s ws o a = all_due_chosen (has_two (snap_of (newest s (advance s ws))) (advance s ws)) s (newest s (advance s ws)) (advance s ws)
    (all_newest s (newest s (advance s ws)) (advance s ws) (omega arith)) (all_due_advanced sight s o ws a)

pub calls_looked : (s : ℕ) (ws : List Labelled) → map call_of (looked s ws) ≡ map call_of ws
calls_looked s ws = calls_accelerate (snap_of (newest s (advance s ws))) (advance s ws) ∙ calls_relabelled (advanced_label s) ws

pub newest_most : (s b : ℕ) (ws : List Labelled) → s ≤ b → AllByRecursion (λ w. w.call.stamp ≤ b) ws → newest s ws ≤ b
newest_most s b [] l a = l
newest_most s b (w ∷ ws) l a = newest_most (max s w.call.stamp) b ws (omega (arith, a.0)) a.1

up_to_chosen : (t m : ℕ) (b : Bool) → m ≤ t → IsUpTo t (cond b Done (At m))
up_to_chosen t m true l = tt
up_to_chosen t m false l = l

up_to_advanced : (s t : ℕ) (l : Label) → IsUpTo t l → IsUpTo t (advanced_label s l)
up_to_advanced s t Done u = tt
up_to_advanced s t (At m) u = up_to_chosen t m (nat_le m s) u
up_to_advanced s t Bare u = tt

up_to_accelerated : (s t : ℕ) → s ≤ t → (l : Label) → IsUpTo t l → IsUpTo t (accelerated_label s l)
up_to_accelerated s t o Done u = tt
up_to_accelerated s t o (At m) u = u
up_to_accelerated s t o Bare u = o

all_up_to_chosen : (b : Bool) (s t : ℕ) (ws : List Labelled) → s ≤ t → AllByRecursion (λ w. IsUpTo t w.label) ws → AllByRecursion (λ w. IsUpTo t w.label) (cond b ws (map (relabelled (accelerated_label s)) ws))
all_up_to_chosen true s t ws o u = u
all_up_to_chosen false s t ws o u = all_relabelled (IsUpTo t) (IsUpTo t) (accelerated_label s) (up_to_accelerated s t o) ws u

all_snaps : (b : ℕ) (ws : List Labelled) → AllByRecursion (λ w. w.call.stamp ≤ b) ws → AllByRecursion (λ w. snap_of w.call.stamp ≤ snap_of b) ws
all_snaps b [] a = tt
all_snaps b (w ∷ ws) a = (snap_later w.call.stamp b a.0, all_snaps b ws a.1)

stamps_advanced : (s b : ℕ) (ws : List Labelled) → AllByRecursion (λ w. w.call.stamp ≤ b) ws → AllByRecursion (λ w. w.call.stamp ≤ b) (advance s ws)
stamps_advanced s b [] a = tt
stamps_advanced s b (w ∷ ws) a = (a.0, stamps_advanced s b ws a.1)

-- a look is one that `accelerate` allows
pub may_accelerate : (sight number s : ℕ) (ws : List Labelled) → number ≤ s → IsLabelledAt sight number ws → MayAccelerate (snap_of (newest s (advance s ws))) (advance s ws)
may_accelerate sight number s ws l i =
    let n : s ≤ newest s (advance s ws) = newest_least s (advance s ws) in
    record {
      numbers = all_relabelled (IsUpTo (snap_of number)) (IsUpTo (snap_of (newest s (advance s ws)))) (advanced_label s)
          (λ k u. up_to_advanced s (snap_of (newest s (advance s ws))) k (up_to_later (snap_of number) (snap_of (newest s (advance s ws))) (snap_later number (newest s (advance s ws)) (omega arith)) k u)) ws i.most;
      stamps = all_snaps (newest s (advance s ws)) (advance s ws) (all_newest s (newest s (advance s ws)) (advance s ws) (omega arith));
    }

-- the list after a look at number s, where no stamp is above s
pub labelled_looked : (sight s : ℕ) (ws : List Labelled) → sight ≤ s → AllByRecursion (λ w. w.call.stamp ≤ s) ws → IsLabelledAt sight s ws → IsLabelledAt s s (looked s ws)
labelled_looked sight s ws l stamps i =
    let n : newest s (advance s ws) ≤ s = newest_most s s (advance s ws) (omega arith) (stamps_advanced s s ws stamps) in
    record {
      list = list_accelerated (snap_of (newest s (advance s ws))) (advance s ws) (may_accelerate sight s s ws (omega arith) i) (list_advanced s (snap_of s) ws i.most i.list);
      due = due_looked sight s ws l i.due;
      most = all_up_to_chosen (has_two (snap_of (newest s (advance s ws))) (advance s ws)) (snap_of (newest s (advance s ws))) (snap_of s) (advance s ws) (snap_later (newest s (advance s ws)) s n)
          (all_relabelled (IsUpTo (snap_of s)) (IsUpTo (snap_of s)) (advanced_label s) (up_to_advanced s (snap_of s)) ws i.most);
    }

-- The stamps in the two lists of a processor are at most the number.

pub all_left : (P : Call → Type 0) (xs ys : List Call) → AllByRecursion P (xs ++ ys) → AllByRecursion P xs
all_left P [] ys a = tt
all_left P (x ∷ xs) ys a = (a.0, all_left P xs ys a.1)

all_right : (P : Call → Type 0) (xs ys : List Call) → AllByRecursion P (xs ++ ys) → AllByRecursion P ys
all_right P [] ys a = a
all_right P (x ∷ xs) ys a = all_right P xs ys a.1

stamps_past : (n : ℕ) (h : List Mark) (p s : ℕ) (ws : List Labelled) → AllByRecursion (IsStamped n h p s) (map call_of ws) → AllByRecursion (λ w. w.call.stamp ≤ s) ws
stamps_past n h p s [] a = tt
stamps_past n h p s (w ∷ ws) a = (a.0.past, stamps_past n h p s ws a.1)

from_joined : (P : Call → Type 0) (c : Cpu) → AllByRecursion P (stamped_callbacks c) → AllByRecursion P (map call_of c.joined ++ (c.drawn ++ (flattened c.lane ++ (c.bypass ++ map call_of c.own))))
from_joined P c a = all_right P c.out _ (all_right P (flattened c.done_lane) _ (all_right P c.held _ a))

pub joined_stamps : (n : ℕ) (h : List Mark) (p s : ℕ) (c : Cpu) → AllByRecursion (IsStamped n h p s) (stamped_callbacks c) → AllByRecursion (λ w. w.call.stamp ≤ s) c.joined
joined_stamps n h p s c a = stamps_past n h p s c.joined (all_left (IsStamped n h p s) (map call_of c.joined) _ (from_joined (IsStamped n h p s) c a))

pub own_stamps : (n : ℕ) (h : List Mark) (p s : ℕ) (c : Cpu) → AllByRecursion (IsStamped n h p s) (stamped_callbacks c) → AllByRecursion (λ w. w.call.stamp ≤ s) c.own
own_stamps n h p s c a = stamps_past n h p s c.own (all_right (IsStamped n h p s) c.bypass _ (all_right (IsStamped n h p s) (flattened c.lane) _
    (all_right (IsStamped n h p s) c.drawn _ (all_right (IsStamped n h p s) (map call_of c.joined) _ (from_joined (IsStamped n h p s) c a)))))

-- the newest stamp, with the number, is at most the number
pub newest_stamp : (s : ℕ) (ws : List Labelled) → AllByRecursion (λ w. w.call.stamp ≤ s) ws → newest s (advance s ws) ≤ s
newest_stamp s ws a = newest_most s s (advance s ws) (omega arith) (stamps_advanced s s ws a)
