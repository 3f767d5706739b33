-- The callbacks that are with group and hand: those that were accepted before a processor left Offloaded, and none in Local.
use Rattle.std.proofs.Common.{◌≡◌, ℕ, ◌+◌, ◌/◌, ◌<◌, ◌≤◌, List, [], ◌∷◌, ◌++◌, length, map, refl, ap, sym, subst, ◌∙◌, arith, true, length-append, append_assoc}
use Rattle.std.specs.List.{AllByRecursion}
use Rattle.std.specs.Option.{option_to_list}
use Rattle.std.proofs.lemmas.List.{append_cancel_right, length-map}
use Rattle.rcu_world_law.specs.declared.marks.Mark.{Mark}
use Rattle.rcu_jobs.specs.declared.modes.Mode.{Mode}
use Rattle.rcu_jobs.specs.declared.modes.Mode.TheVariants.{Local, Offloading, Offloaded, Deoffloading}
use Rattle.rcu_world_law.specs.Calls.{Call}
use Rattle.rcu_world_law.specs.LabelledLists.{Labelled, call_of}
use Rattle.rcu_world_law.specs.Law.{ran}
use Rattle.rcu_jobs.specs.Modes.{is_offloaded, is_deoffloading}
use Rattle.rcu_world_law.specs.States.{Cpu}
use Rattle.rcu_world_law.specs.Places.{key_of, flattened, stamped_callbacks, remaining_callbacks, offloaded_callbacks}
use Rattle.rcu_world_law.specs.Invariant.{AreNumbered, IsPlacedInOrder, MayHaveOffloaded}
use Rattle.rcu_world_law.proofs.Looks.{all_left}

-- what stands in the places 1 to 7 is what is offloaded, then the own list
pub split_own : (c : Cpu) (ws : List Labelled)
    → c.held ++ (flattened c.done_lane ++ (c.out ++ (map call_of c.joined ++ (c.drawn ++ (flattened c.lane ++ (c.bypass ++ map call_of ws)))))) ≡ offloaded_callbacks c ++ map call_of ws
split_own c ws = simp append_assoc

moved_on : (c d : Cpu) → stamped_callbacks d ≡ stamped_callbacks c → map call_of d.own ≡ map call_of c.own → offloaded_callbacks d ≡ offloaded_callbacks c
moved_on c d e o = append_cancel_right (offloaded_callbacks d) (offloaded_callbacks c) (map call_of c.own)
    (ap (λ x. offloaded_callbacks d ++ x) (sym o) ∙ sym (split_own d d.own) ∙ e ∙ split_own c c.own)

-- a step to the next place
pub still_offloaded : (c d : Cpu) → stamped_callbacks d ≡ stamped_callbacks c → map call_of d.own ≡ map call_of c.own
    → MayHaveOffloaded c.mode c.left (offloaded_callbacks c) → MayHaveOffloaded c.mode c.left (offloaded_callbacks d)
still_offloaded c d e o i = subst (MayHaveOffloaded c.mode c.left) (sym (moved_on c d e o)) i

pub in_offloaded : (m : Mode) (left : ℕ) (xs : List Call) → is_offloaded m ≡ true → MayHaveOffloaded m left xs
in_offloaded Local left xs e = absurd cc
in_offloaded Offloading left xs e = tt
in_offloaded Offloaded left xs e = tt
in_offloaded Deoffloading left xs e = absurd cc

-- one of them runs
pub one_less : (m : Mode) (left : ℕ) (x : Call) (xs : List Call) → MayHaveOffloaded m left (x ∷ xs) → MayHaveOffloaded m left xs
one_less Local left x xs e = absurd cc
one_less Offloading left x xs e = tt
one_less Offloaded left x xs e = tt
one_less Deoffloading left x xs e = e.1

all_below : (k m : ℕ) (xs : List Call) → k + length xs ≤ m → AreNumbered k xs → AllByRecursion (λ x. x.number < m) xs
all_below k m [] l a = tt
all_below k m (x ∷ xs) l a = (omega (arith, a.0), all_below (k + 1) m xs (omega arith) a.1)

-- at the entry to Deoffloading all numbers are below the count
pub leaving : (h : List Mark) (p : ℕ) (c : Cpu) → IsPlacedInOrder h p c → AllByRecursion (λ x. x.number < c.count) (offloaded_callbacks c)
leaving h p c i =
    let n : length (ran p h) + length (remaining_callbacks c) ≤ c.count =
    omega (arith, i.count, ap length i.keys, length-append (ran p h) (map key_of (remaining_callbacks c)), length-map (remaining_callbacks c) key_of) in
    let all : AllByRecursion (λ x. x.number < c.count) (remaining_callbacks c) = all_below (length (ran p h)) c.count (remaining_callbacks c) n i.numbers in
    all_left (λ x. x.number < c.count) (offloaded_callbacks c) (map call_of c.own)
    (subst (AllByRecursion (λ x. x.number < c.count)) (split_own c c.own) (all_left (λ x. x.number < c.count) (stamped_callbacks c) (option_to_list c.fresh) all))

is_left : (m : Mode) → is_deoffloading m ≡ true → m ≡ Deoffloading
is_left Local e = absurd cc
is_left Offloading e = absurd cc
is_left Offloaded e = absurd cc
is_left Deoffloading e = refl

none_left : (k left turn : ℕ) (xs ys : List Call) → AreNumbered k (xs ++ ys) → AllByRecursion (λ x. x.number < left) xs → left ≤ turn / 2 → (turn + 1) / 2 ≡ k → xs ≡ []
none_left k left turn [] ys a b l e = refl
none_left k left turn (x ∷ xs) ys a b l e = absurd (omega (arith, a.0, b.0))

-- once the turn has reached them all, none is left
pub settling : (h : List Mark) (p : ℕ) (c : Cpu) → is_deoffloading c.mode ≡ true → c.left ≤ c.turn / 2 → IsPlacedInOrder h p c → MayHaveOffloaded c.mode c.left (offloaded_callbacks c)
    → offloaded_callbacks c ≡ []
settling h p c m l i o =
    let parts : remaining_callbacks c ≡ offloaded_callbacks c ++ (map call_of c.own ++ option_to_list c.fresh) =
    ap (λ x. x ++ option_to_list c.fresh) (split_own c c.own) ∙ append_assoc (offloaded_callbacks c) (map call_of c.own) (option_to_list c.fresh) in
    none_left (length (ran p h)) c.left c.turn (offloaded_callbacks c) (map call_of c.own ++ option_to_list c.fresh)
    (subst (AreNumbered (length (ran p h))) parts i.numbers) (subst (λ x. MayHaveOffloaded x c.left (offloaded_callbacks c)) (is_left c.mode m) o) l i.turn
