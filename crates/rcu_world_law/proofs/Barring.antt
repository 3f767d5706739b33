-- Open, Count, Turn and Pass keep the invariant: a barrier passes only once all that was accepted before it has run.
use Rattle.std.proofs.Common.{◌≡◌, ℕ, zero, suc, ◌+◌, ◌-◌, ◌*◌, ◌<◌, ◌≤◌, List, [], ◌∷◌, ◌++◌, length, take, refl, ap, sym, subst, ◌∙◌, arith, Bool, Option, Some, None, length-append, inl, inr, ◌⊎◌, true, false, not, ◌||◌, get_or, set, replicate, nat_lt, nat_le}
use Rattle.std.specs.List.{slice_get}
use Rattle.std.proofs.lemmas.Bool.{cases_eq, ne_eqb, cases_lt, and_parts, ltb-true, eqb-true, leb-true, or_cases}
use Rattle.std.proofs.lemmas.List.{get_or-set_same, get_or-set_other, length-set, get_or-replicate, length-replicate, get_or_past, get_or_append_left, get_or_at}
use Rattle.rcu_world_law.specs.declared.marks.Mark.{Mark}
use Rattle.rcu_world_law.specs.declared.marks.Mark.TheVariants.{Accepted, Reported, Ran, Opened, Passed, Shut, Back}
use Rattle.rcu_world_law.specs.Law.{accepted, ran, key_ran, IsAccepted, IsRan}
use Rattle.rcu_world_law.specs.States.{State, Barrier, no_barrier, cpu_at, has, with_mark, with_barrier, barrier_at, is_open, count_at}
use Rattle.rcu_world_law.specs.Lists.{is_none, all_of, value_or}
use Rattle.rcu_world_law.specs.Events.{is_enabled, after}
use Rattle.rcu_world_law.specs.Steps.{counts_cpu, sees_cpu}
use Rattle.rcu_world_law.specs.Events.CoreEvent.{Open, Count, Turn, Pass}
use Rattle.rcu_world_law.specs.Invariant.{IsCpu, IsBarrier, IsCore}
use Rattle.rcu_world_law.proofs.Ends.{get_cases, get_last}
use Rattle.rcu_world_law.proofs.Law.{accepted_within, lawful_next, own_ran}
use Rattle.rcu_world_law.proofs.Frames.{cpu_after, board_after, barrier_after, opened_after, passed_after, there_after}

cases_ran : (p : ℕ) (m : Mark) → ((key : ℕ) × (m ≡ Ran p key)) ⊎ (key_ran p m ≡ [])
cases_ran p (Accepted q key) = inr refl
cases_ran p (Reported q) = inr refl
cases_ran p (Ran q key) = elim (cases_eq q p) [ inl e ↦ inl (key, ap (λ x. Ran x key) e) | inr d ↦ inr (rw (ne_eqb q p d) refl) ]
cases_ran p (Opened b) = inr refl
cases_ran p (Passed b) = inr refl
cases_ran p (Shut q) = inr refl
cases_ran p (Back q key) = inr refl

-- a run that is counted stands somewhere
pub find_ran : (h : List Mark) (p k : ℕ) → k < length (ran p h) → (u : ℕ) × (u < length h) × IsRan h p k u
find_ran [] p k l = absurd (omega arith)
find_ran (x ∷ h) p k l = elim (cases_ran p x) [
  | inl r ↦
      let one : key_ran p x ≡ r.0 ∷ [] = ap (key_ran p) r.1 ∙ own_ran p r.0 in
      elim (cases_eq k 0) [
        | inl z ↦ (0, omega arith, record { key = r.0; stands = ap Some r.1; before = sym z })
        | inr d ↦
            let g = find_ran h p (k - 1) (omega (arith, length-append (key_ran p x) (ran p h), ap length one)) in
            (suc g.0, omega (arith, g.1), record { key = g.2.key; stands = g.2.stands; before = omega (arith, g.2.before, length-append (key_ran p x) (ran p (take g.0 h)), ap length one) })
      ]
  | inr z ↦
      let g = find_ran h p k (omega (arith, length-append (key_ran p x) (ran p h), ap length z)) in
      (suc g.0, omega (arith, g.1), record { key = g.2.key; stands = g.2.stands; before = omega (arith, g.2.before, length-append (key_ran p x) (ran p (take g.0 h)), ap length z) })
]

-- barriers after a step of one of them
barriers_with : (P : ℕ → Barrier → Type 0) (vs : List Barrier) (b : ℕ) (v : Barrier) → b < length vs → P b v → ((x : ℕ) → x < length vs → P x (get_or vs x no_barrier))
    → (x : ℕ) → x < length (set vs b v) → P x (get_or (set vs b v) x no_barrier)
barriers_with P vs b v l i others x m = elim (cases_eq x b) [
  | inl f ↦ subst (λ y. P y (get_or (set vs b v) y no_barrier)) (sym f) (subst (P b) (sym (get_or-set_same vs b v no_barrier l)) i)
  | inr d ↦ subst (P x) (sym (get_or-set_other vs b x v no_barrier d)) (others x (omega (arith, length-set vs b v)))
]

core_with_barrier : (w : State) (b : ℕ) (v : Barrier) → IsCore w → b < length w.barriers → IsBarrier (length w.cpus) w.history b v → IsCore (with_mark (with_barrier w b v) None)
core_with_barrier w b v k l i = record {
  board = k.board;
  cpu = k.cpu;
  barrier = barriers_with (IsBarrier (length w.cpus) w.history) w.barriers b v l i k.barrier;
  opened = λ x o s. omega (arith, k.opened x o s, length-set w.barriers b v);
  passed = λ x o s. omega (arith, k.passed x o s, length-set w.barriers b v);
  there = k.there;
  lawful = k.lawful;
}

-- Open
abbrev new_barrier : ℕ → Barrier
new_barrier n = record { passed = false; counts = replicate n None; seen = replicate n false }

replicate_default : {X : Type 0} (n p : ℕ) (x : X) → get_or (replicate n x) p x ≡ x
replicate_default n p x = elim (cases_lt p n) [
  | inl l ↦ get_or-replicate n p x x l
  | inr l ↦ get_or_past (replicate n x) p x (omega (arith, length-replicate n x))
]

open_new : (w : State) (b : ℕ) → IsCore w → b ≡ length w.barriers → IsBarrier (length w.cpus) (w.history ++ Opened b ∷ []) b (new_barrier (length w.cpus))
open_new w b k e = record {
  counts = length-replicate (length w.cpus) None;
  seens = length-replicate (length w.cpus) false;
  opened = (length w.history, get_last w.history (Opened b));
  counted = λ o p j t c so a l s. absurd (let x : None ≡ Some c = sym (replicate_default (length w.cpus) p None) ∙ s in cc);
  seen = λ p s. absurd (let x : false ≡ true = sym (replicate_default (length w.cpus) p false) ∙ s in cc);
  unpassed = λ f o s. elim (get_cases w.history (Opened b) (Passed b) o s) [
    | inl u ↦ let l : b < length w.barriers = k.passed b o u.1 in absurd (omega arith)
    | inr u ↦ absurd (let x : Opened b ≡ Passed b = u.1 in cc)
  ];
}

open_cpu : (w : State) (b : ℕ) → IsCore w → (q : ℕ) → q < length w.cpus → IsCpu (length w.cpus) (w.history ++ Opened b ∷ []) w.number w.shape.limit q (cpu_at w q)
open_cpu w b k q i = cpu_after (length w.cpus) w.history (Opened b) w.number w.shape.limit q (cpu_at w q) refl refl (λ e. absurd cc) (k.cpu q i)

pub open_kept : (w : State) (b : ℕ) → IsCore w → is_enabled w (Open b) ≡ true → IsCore (after w (Open b))
open_kept w b k e =
    let f : b ≡ length w.barriers = eqb-true b (length w.barriers) e in
    record {
      board = board_after (length w.cpus) w.number w.owing w.history (Opened b) (λ q. refl) k.board;
      cpu = open_cpu w b k;
      barrier = λ x l. elim (cases_eq x b) [
        | inl g ↦ subst (IsBarrier (length w.cpus) (w.history ++ Opened b ∷ []) x) (sym (get_or_at w.barriers (new_barrier (length w.cpus)) [] no_barrier x (sym (g ∙ f))))
            (subst (λ y. IsBarrier (length w.cpus) (w.history ++ Opened b ∷ []) y (new_barrier (length w.cpus))) (sym g) (open_new w b k f))
        | inr d ↦
            let m : x < length w.barriers = omega (arith, length-append w.barriers (new_barrier (length w.cpus) ∷ [])) in
            subst (IsBarrier (length w.cpus) (w.history ++ Opened b ∷ []) x) (sym (get_or_append_left w.barriers (new_barrier (length w.cpus) ∷ []) no_barrier x m))
            (barrier_after (length w.cpus) w.history (Opened b) x (barrier_at w x) (λ g. d (let y : Opened b ≡ Opened x = g in cc)) (λ y g. absurd cc) (k.barrier x m))
      ];
      opened = λ x o s. omega (
        arith,
        opened_after w.history (Opened b) (length w.barriers + 1) (λ y g. let z : b ≡ y = cc in omega arith) (λ y u v. omega (arith, k.opened y u v)) x o s,
        length-append w.barriers (new_barrier (length w.cpus) ∷ []),
      );
      passed = λ x o s. omega (arith, passed_after w.history (Opened b) (length w.barriers) (λ y g. absurd cc) k.passed x o s, length-append w.barriers (new_barrier (length w.cpus) ∷ []));
      there = there_after w.history (Opened b) (length w.cpus) (λ q key g. absurd cc) k.there;
      lawful = lawful_next (length w.cpus) w.history (Opened b) (λ i s. absurd (let l : b < length w.barriers = k.opened b i s in omega arith)) k.lawful;
    }

-- Count
is_none_from : {X : Type 0} (o : Option X) → is_none o ≡ true → o ≡ None
is_none_from None e = refl
is_none_from (Some x) e = absurd cc

is_some_from : {X : Type 0} (o : Option X) → not (is_none o) ≡ true → (x : X) × (o ≡ Some x)
is_some_from None e = absurd cc
is_some_from (Some x) e = (x, refl)

count_barrier : (w : State) (b p : ℕ) (v : Barrier) → IsCore w → p < length w.cpus → count_at v p ≡ None → IsBarrier (length w.cpus) w.history b v → IsBarrier (length w.cpus) w.history b (counts_cpu w p v)
count_barrier w b p v k l e i =
    let within : p < length v.counts = omega (arith, i.counts) in
    record {
      counts = length-set v.counts p (Some (cpu_at w p).count) ∙ i.counts;
      seens = i.seens;
      opened = i.opened;
      counted = λ o q j t c so a before s. elim (cases_eq q p) [
        | inl f ↦
            let n : Some (cpu_at w p).count ≡ Some c = sym (get_or-set_same v.counts p (Some (cpu_at w p).count) None within) ∙ ap (λ x. get_or (set v.counts p (Some (cpu_at w p).count)) x None) (sym f) ∙ s in
            let m : (cpu_at w p).count ≡ c = cc in
            let x : j < length (accepted q w.history) = accepted_within w.history q j t a in
            omega (arith, (k.cpu p l).placed.count, ap (λ y. length (accepted y w.history)) f)
        | inr d ↦ i.counted o q j t c so a before (sym (get_or-set_other v.counts p q (Some (cpu_at w p).count) None d) ∙ s)
      ];
      seen = λ q s. let old = i.seen q s in elim (cases_eq q p) [
        | inl f ↦ absurd (let x : None ≡ Some old.0 = sym e ∙ ap (count_at v) (sym f) ∙ old.1 in cc)
        | inr d ↦ (old.0, get_or-set_other v.counts p q (Some (cpu_at w p).count) None d ∙ old.1, old.2)
      ];
      unpassed = i.unpassed;
    }

pub count_kept : (w : State) (b p : ℕ) → IsCore w → is_enabled w (Count b p) ≡ true → IsCore (after w (Count b p))
count_kept w b p k e =
    let e1 = and_parts (is_open w b) _ e in
    let e2 = and_parts (nat_lt b (length w.barriers)) (not (barrier_at w b).passed) e1.0 in
    let e3 = and_parts (has w p) (is_none (count_at (barrier_at w b) p)) e1.1 in
    let lb : b < length w.barriers = ltb-true b (length w.barriers) e2.0 in
    core_with_barrier w b (counts_cpu w p (barrier_at w b)) k lb
    (count_barrier w b p (barrier_at w b) k (ltb-true p (length w.cpus) e3.0) (is_none_from (count_at (barrier_at w b) p) e3.1) (k.barrier b lb))

-- Turn
turn_barrier : (w : State) (b p : ℕ) (v : Barrier) (c : ℕ) → IsCore w → p < length w.cpus → count_at v p ≡ Some c → IsBarrier (length w.cpus) w.history b v → IsBarrier (length w.cpus) w.history b (sees_cpu w p v)
turn_barrier w b p v c k l e i =
    let within : p < length v.seen = omega (arith, i.seens) in
    let now : Bool = get_or v.seen p false || nat_le (2 * value_or (count_at v p)) (cpu_at w p).turn in
    record {
      counts = i.counts;
      seens = length-set v.seen p (get_or v.seen p false || nat_le (2 * value_or (count_at v p)) (cpu_at w p).turn) ∙ i.seens;
      opened = i.opened;
      counted = i.counted;
      seen = λ q s. elim (cases_eq q p) [
        | inl f ↦
            let t : (get_or v.seen p false || nat_le (2 * value_or (count_at v p)) (cpu_at w p).turn) ≡ true =
            sym (get_or-set_same v.seen p (get_or v.seen p false || nat_le (2 * value_or (count_at v p)) (cpu_at w p).turn) false within)
            ∙ ap (λ x. get_or (set v.seen p (get_or v.seen p false || nat_le (2 * value_or (count_at v p)) (cpu_at w p).turn)) x false) (sym f) ∙ s in
            elim (or_cases (get_or v.seen p false) (nat_le (2 * value_or (count_at v p)) (cpu_at w p).turn) t) [
              | inl old ↦ i.seen q (ap (λ x. get_or v.seen x false) f ∙ old)
              | inr new ↦
                  let r : 2 * value_or (count_at v p) ≤ (cpu_at w p).turn = leb-true (2 * value_or (count_at v p)) (cpu_at w p).turn new in
                  let vc : value_or (count_at v p) ≡ c = ap value_or e in
                  (c, ap (count_at v) f ∙ e, omega (arith, (k.cpu p l).placed.turn, ap (λ y. length (ran y w.history)) f))
            ]
        | inr d ↦ i.seen q (sym (get_or-set_other v.seen p q (get_or v.seen p false || nat_le (2 * value_or (count_at v p)) (cpu_at w p).turn) false d) ∙ s)
      ];
      unpassed = i.unpassed;
    }

pub turn_kept : (w : State) (b p : ℕ) → IsCore w → is_enabled w (Turn b p) ≡ true → IsCore (after w (Turn b p))
turn_kept w b p k e =
    let e1 = and_parts (is_open w b) _ e in
    let e2 = and_parts (nat_lt b (length w.barriers)) (not (barrier_at w b).passed) e1.0 in
    let e3 = and_parts (has w p) (not (is_none (count_at (barrier_at w b) p))) e1.1 in
    let lb : b < length w.barriers = ltb-true b (length w.barriers) e2.0 in
    let some = is_some_from (count_at (barrier_at w b) p) e3.1 in
    core_with_barrier w b (sees_cpu w p (barrier_at w b)) k lb
    (turn_barrier w b p (barrier_at w b) some.0 k (ltb-true p (length w.cpus) e3.0) some.1 (k.barrier b lb))

-- Pass
all_at : (bs : List Bool) (i : ℕ) → all_of bs ≡ true → i < length bs → get_or bs i false ≡ true
all_at [] i e l = absurd (omega arith)
all_at (b ∷ bs) zero e l = (and_parts b (all_of bs) e).0
all_at (b ∷ bs) (suc i) e l = all_at bs i (and_parts b (all_of bs) e).1 (omega arith)

passed_barrier : (n : ℕ) (h : List Mark) (b : ℕ) (v : Barrier) → IsBarrier n h b v → IsBarrier n (h ++ Passed b ∷ []) b (record v { passed = true })
passed_barrier n h b v i = barrier_after n h (Passed b) b (record v { passed = true }) (λ e. absurd cc) (λ f e. let x : true ≡ false = f in absurd cc)
    (record { counts = i.counts; seens = i.seens; opened = i.opened; counted = i.counted; seen = i.seen; unpassed = λ f. let x : true ≡ false = f in absurd cc })

pub pass_kept : (w : State) (b : ℕ) → IsCore w → is_enabled w (Pass b) ≡ true → IsCore (after w (Pass b))
pass_kept w b k e =
    let e1 = and_parts (is_open w b) (all_of (barrier_at w b).seen) e in
    let e2 = and_parts (nat_lt b (length w.barriers)) (not (barrier_at w b).passed) e1.0 in
    let lb : b < length w.barriers = ltb-true b (length w.barriers) e2.0 in
    let i : IsBarrier (length w.cpus) w.history b (barrier_at w b) = k.barrier b lb in
    let ran_before : (o p j t : ℕ) → slice_get w.history o ≡ Some (Opened b) → IsAccepted w.history p j t → t < o → (u : ℕ) × (u < length w.history) × IsRan w.history p j u = λ o p j t so a l.
    let there : p < length w.cpus = k.there p j t a in
    let s = i.seen p (all_at (barrier_at w b).seen p e1.1 (omega (arith, i.seens))) in
    let m : j < s.0 = i.counted o p j t s.0 so a l s.1 in
    find_ran w.history p j (omega (arith, s.2)) in
    record {
      board = board_after (length w.cpus) w.number w.owing w.history (Passed b) (λ q. refl) k.board;
      cpu = λ q l. cpu_after (length w.cpus) w.history (Passed b) w.number w.shape.limit q (cpu_at w q) refl refl (λ x. absurd cc) (k.cpu q l);
      barrier = λ x l. elim (cases_eq x b) [
        | inl g ↦ subst (λ y. IsBarrier (length w.cpus) (w.history ++ Passed b ∷ []) y (get_or (set w.barriers b (record (barrier_at w b) { passed = true })) y no_barrier)) (sym g)
            (subst (IsBarrier (length w.cpus) (w.history ++ Passed b ∷ []) b) (sym (get_or-set_same w.barriers b (record (barrier_at w b) { passed = true }) no_barrier lb)) (passed_barrier (length w.cpus) w.history b (barrier_at w b) i))
        | inr d ↦ subst (IsBarrier (length w.cpus) (w.history ++ Passed b ∷ []) x) (sym (get_or-set_other w.barriers b x (record (barrier_at w b) { passed = true }) no_barrier d))
            (barrier_after (length w.cpus) w.history (Passed b) x (barrier_at w x) (λ g. absurd cc) (λ f g. d (let y : Passed b ≡ Passed x = g in cc)) (k.barrier x (omega (arith, length-set w.barriers b (record (barrier_at w b) { passed = true })))))
      ];
      opened = λ x o s. omega (arith, opened_after w.history (Passed b) (length w.barriers) (λ y g. absurd cc) k.opened x o s, length-set w.barriers b (record (barrier_at w b) { passed = true }));
      passed = λ x o s. omega (arith, passed_after w.history (Passed b) (length w.barriers) (λ y g. let z : b ≡ y = cc in omega arith) k.passed x o s, length-set w.barriers b (record (barrier_at w b) { passed = true }));
      there = there_after w.history (Passed b) (length w.cpus) (λ q key g. absurd cc) k.there;
      lawful = lawful_next (length w.cpus) w.history (Passed b) (record { opened = i.opened; ran = ran_before }) k.lawful;
    }
