-- a loop over all processors
use Rattle.std.proofs.Common.{◌≡◌, ℕ, zero, suc, ◌<◌, ◌≤◌, ◌+◌, ◌/◌, ◌==◌, ◌&&◌, ◌||◌, Bool, true, false, cond, nat_lt, length, refl, subst, sym, List, [], ◌∷◌, ◌++◌, arith, get_or, ap, ◌∙◌, take, drop, set}
use Rattle.std.proofs.lemmas.Bool.{lt-ltb}
use Rattle.rcu_world_law.specs.States.{State, is_member}
use Rattle.rcu_world_law.specs.Events.{any_member, most_wanted}
use Rattle.rcu_world_law.specs.Lists.{needed_with}
use Rattle.rcu_world_law.specs.Invariant.{IsCore}
use Rattle.rcu_world_law.proofs.Bounds.{labelled_lists, look_group_fits}
use Rattle.rcu_world.specs.Members.{is_any, is_in_group, any_in_group, most_in_group}
use Rattle.rcu_world_processor.specs.declared.processor.WorldProcessor.{WorldProcessor}
use Rattle.rcu_world_processor.specs.Views.{seen}
use Rattle.rcu_world.specs.Views.{all_seen}
use Rattle.std.proofs.lemmas.List.{drop_all, drop_more, take_more_set, drop-set-lt, append_assoc, drop-drop}
use Rattle.rcu_world_law.specs.States.{Cpu, empty_cpu}
use Rattle.rcu_world_law.specs.Events.{each_cpu}
use Rattle.rcu_world.specs.Members.{AreLookable, IsLookable}

-- one more
pub each_more : (f : ℕ → Cpu → Cpu) (i : ℕ) (all xs : List Cpu) (x new : Cpu) → i < length xs → x ≡ get_or xs i empty_cpu → new ≡ f i x
    → all ≡ take i xs ++ each_cpu f i (drop i xs) → all ≡ take (i + 1) (set xs i new) ++ each_cpu f (i + 1) (drop (i + 1) (set xs i new))
each_more f i all xs x new l r s h =
    let d : drop i xs ≡ x ∷ drop (i + 1) xs = drop_more xs i empty_cpu l ∙ ap (λ y. y ∷ drop (i + 1) xs) (sym r) in
    let t : take (i + 1) (set xs i new) ≡ take i xs ++ new ∷ [] = take_more_set xs i new l in
    let e : drop (i + 1) (set xs i new) ≡ drop (i + 1) xs = drop-set-lt (i + 1) xs i new (omega arith) in
    h ∙ ap (λ y. take i xs ++ each_cpu f i y) d ∙ ap (λ y. take i xs ++ y ∷ each_cpu f (i + 1) (drop (i + 1) xs)) (sym s)
    ∙ sym (append_assoc (take i xs) (new ∷ []) (each_cpu f (i + 1) (drop (i + 1) xs))) ∙ ap (λ y. y ++ each_cpu f (i + 1) (drop (i + 1) xs)) (sym t)
    ∙ ap (λ y. take (i + 1) (set xs i new) ++ each_cpu f (i + 1) y) (sym e)

pub lookable_at : (number i : ℕ) (all xs : List Cpu) (x : Cpu) → AreLookable number all → i < length xs → length xs ≡ length all → x ≡ get_or xs i empty_cpu → drop i xs ≡ drop i all
    → IsLookable number x.joined
lookable_at number i all xs x a l n r d =
    let e : get_or xs i empty_cpu ≡ get_or all i empty_cpu = ap (λ y. get_or y 0 empty_cpu) (sym (drop_more xs i empty_cpu l) ∙ d ∙ drop_more all i empty_cpu (omega arith)) in
    subst (λ y. IsLookable number y.joined) (sym (r ∙ e)) (a i (omega arith))

pub drop_again : (i : ℕ) (xs ys : List Cpu) → drop i xs ≡ drop i ys → drop (i + 1) xs ≡ drop (i + 1) ys
drop_again i xs ys e = sym (drop-drop 1 i xs) ∙ ap (drop 1) e ∙ drop-drop 1 i ys

-- what a look asks of the groups' lists holds
pub lookable : (w : State) → IsCore w → AreLookable w.number w.cpus
lookable w k = λ p l. record { small = look_group_fits w p k l; may = (labelled_lists w p k l).joined_accelerates }

-- the members, as the law and as the loops see them
member_same : (w : State) (g p : ℕ) → p < length w.cpus → is_member w g p ≡ is_in_group w.shape.offloadable w.shape.stride g p
member_same w g p l = let h : nat_lt p (length w.cpus) ≡ true = lt-ltb p (length w.cpus) l in
    ap (λ b. (b && get_or w.shape.offloadable p false) && (p / w.shape.stride == g)) h

pub any_same : (w : State) (g : ℕ) (test : Cpu → Bool) (p : ℕ) (cs : List Cpu) → p + length cs ≡ length w.cpus
    → any_in_group w.shape.offloadable w.shape.stride g test p cs ≡ any_member w g test p cs
any_same w g test p [] l = refl
any_same w g test p (c ∷ cs) l =
    ap (λ b. (b && test c) || any_in_group w.shape.offloadable w.shape.stride g test (p + 1) cs) (sym (member_same w g p (omega arith)))
    ∙ ap (λ b. (is_member w g p && test c) || b) (any_same w g test (p + 1) cs (omega arith))

pub most_same : (w : State) (g d p : ℕ) (cs : List Cpu) → p + length cs ≡ length w.cpus
    → most_in_group w.shape.offloadable w.shape.stride g d p cs ≡ most_wanted w g d p cs
most_same w g d p [] l = refl
most_same w g d p (c ∷ cs) l =
    ap (λ b. most_in_group w.shape.offloadable w.shape.stride g (cond b (needed_with d c.group_wanted) d) (p + 1) cs) (sym (member_same w g p (omega arith)))
    ∙ most_same w g (cond (is_member w g p) (needed_with d c.group_wanted) d) (p + 1) cs (omega arith)

pub each_same : (w : State) (g : ℕ) (f : Cpu → Cpu) (p : ℕ) (cs : List Cpu) → p + length cs ≡ length w.cpus
    → each_cpu (λ q c. cond (is_in_group w.shape.offloadable w.shape.stride g q) (f c) c) p cs ≡ each_cpu (λ q c. cond (is_member w g q) (f c) c) p cs
each_same w g f p [] l = refl
each_same w g f p (c ∷ cs) l =
    ap (λ b. cond b (f c) c ∷ each_cpu (λ q c. cond (is_in_group w.shape.offloadable w.shape.stride g q) (f c) c) (p + 1) cs) (sym (member_same w g p (omega arith)))
    ∙ ap (λ x. cond (is_member w g p) (f c) c ∷ x) (each_same w g f (p + 1) cs (omega arith))

-- the next processor
pub any_more : {J R : Type 0} (key_of : J → ℕ) (offloadable : List Bool) (stride g : ℕ) (test : Cpu → Bool) (i : ℕ) (ps : List (WorldProcessor J R)) (p : WorldProcessor J R)
    → i < length ps → p ≡ get_or ps i p
    → any_in_group offloadable stride g test i (all_seen key_of (drop i ps))
    ≡ ((is_in_group offloadable stride g i && test (seen key_of p)) || any_in_group offloadable stride g test (i + 1) (all_seen key_of (drop (i + 1) ps)))
any_more key_of offloadable stride g test i ps p l e = ap (λ x. any_in_group offloadable stride g test i (all_seen key_of x)) (drop_more ps i p l ∙ ap (λ y. y ∷ drop (i + 1) ps) (sym e))

-- a processor that fails the test, and one that meets it
pub any_fails : {J R : Type 0} (key_of : J → ℕ) (offloadable : List Bool) (stride g : ℕ) (test : Cpu → Bool) (i : ℕ) (ps : List (WorldProcessor J R)) (p : WorldProcessor J R) (b : Bool)
    → i < length ps → p ≡ get_or ps i p → b ≡ is_in_group offloadable stride g i → (b && test (seen key_of p)) ≡ false
    → any_in_group offloadable stride g test i (all_seen key_of (drop i ps)) ≡ any_in_group offloadable stride g test (i + 1) (all_seen key_of (drop (i + 1) ps))
any_fails key_of offloadable stride g test i ps p b l e m f = any_more key_of offloadable stride g test i ps p l e
    ∙ ap (λ x. (x && test (seen key_of p)) || any_in_group offloadable stride g test (i + 1) (all_seen key_of (drop (i + 1) ps))) (sym m)
    ∙ ap (λ x. x || any_in_group offloadable stride g test (i + 1) (all_seen key_of (drop (i + 1) ps))) f

pub any_meets : {J R : Type 0} (key_of : J → ℕ) (offloadable : List Bool) (stride g : ℕ) (test : Cpu → Bool) (i : ℕ) (ps : List (WorldProcessor J R)) (p : WorldProcessor J R) (b : Bool)
    → i < length ps → p ≡ get_or ps i p → b ≡ is_in_group offloadable stride g i → (b && test (seen key_of p)) ≡ true
    → any_in_group offloadable stride g test i (all_seen key_of (drop i ps)) ≡ true
any_meets key_of offloadable stride g test i ps p b l e m f = any_more key_of offloadable stride g test i ps p l e
    ∙ ap (λ x. (x && test (seen key_of p)) || any_in_group offloadable stride g test (i + 1) (all_seen key_of (drop (i + 1) ps))) (sym m)
    ∙ ap (λ x. x || any_in_group offloadable stride g test (i + 1) (all_seen key_of (drop (i + 1) ps))) f

some_at : {X : Type 0} (xs : List X) (i : ℕ) → i < length xs → (x : X) × (x ≡ get_or xs i x)
some_at (x ∷ xs) zero l = (x, refl)
some_at (x ∷ xs) (suc i) l = some_at xs i (omega arith)
some_at [] i l = absurd (omega arith)

and_true : (b : Bool) → (b && true) ≡ b
and_true true = refl
and_true false = refl

pub member_fails : {J R : Type 0} (key_of : J → ℕ) (offloadable : List Bool) (stride g i : ℕ) (ps : List (WorldProcessor J R)) (b : Bool) → i < length ps → b ≡ is_in_group offloadable stride g i → b ≡ false
    → any_in_group offloadable stride g is_any i (all_seen key_of (drop i ps)) ≡ any_in_group offloadable stride g is_any (i + 1) (all_seen key_of (drop (i + 1) ps))
member_fails key_of offloadable stride g i ps b l m f = let p = some_at ps i l in any_fails key_of offloadable stride g is_any i ps p.0 b l p.1 m (and_true b ∙ f)

pub member_meets : {J R : Type 0} (key_of : J → ℕ) (offloadable : List Bool) (stride g i : ℕ) (ps : List (WorldProcessor J R)) (b : Bool) → i < length ps → b ≡ is_in_group offloadable stride g i → b ≡ true
    → any_in_group offloadable stride g is_any i (all_seen key_of (drop i ps)) ≡ true
member_meets key_of offloadable stride g i ps b l m f = let p = some_at ps i l in any_meets key_of offloadable stride g is_any i ps p.0 b l p.1 m (and_true b ∙ f)

pub most_more : {J R : Type 0} (key_of : J → ℕ) (offloadable : List Bool) (stride g d i : ℕ) (ps : List (WorldProcessor J R)) (p : WorldProcessor J R) (b : Bool) (e : ℕ)
    → i < length ps → p ≡ get_or ps i p → b ≡ is_in_group offloadable stride g i → e ≡ cond b (needed_with d (seen key_of p).group_wanted) d
    → most_in_group offloadable stride g d i (all_seen key_of (drop i ps)) ≡ most_in_group offloadable stride g e (i + 1) (all_seen key_of (drop (i + 1) ps))
most_more key_of offloadable stride g d i ps p b e l h m n =
    ap (λ x. most_in_group offloadable stride g d i (all_seen key_of x)) (drop_more ps i p l ∙ ap (λ y. y ∷ drop (i + 1) ps) (sym h))
    ∙ ap (λ x. most_in_group offloadable stride g x (i + 1) (all_seen key_of (drop (i + 1) ps))) (ap (λ x. cond x (needed_with d (seen key_of p).group_wanted) d) (sym m) ∙ sym n)

-- no processor is left
pub any_end : {J R : Type 0} (key_of : J → ℕ) (offloadable : List Bool) (stride g : ℕ) (test : Cpu → Bool) (i : ℕ) (ps : List (WorldProcessor J R)) → length ps ≤ i
    → any_in_group offloadable stride g test i (all_seen key_of (drop i ps)) ≡ false
any_end key_of offloadable stride g test i ps l = ap (λ x. any_in_group offloadable stride g test i (all_seen key_of x)) (drop_all i ps l)

pub most_end : {J R : Type 0} (key_of : J → ℕ) (offloadable : List Bool) (stride g d i : ℕ) (ps : List (WorldProcessor J R)) → length ps ≤ i
    → most_in_group offloadable stride g d i (all_seen key_of (drop i ps)) ≡ d
most_end key_of offloadable stride g d i ps l = ap (λ x. most_in_group offloadable stride g d i (all_seen key_of x)) (drop_all i ps l)
