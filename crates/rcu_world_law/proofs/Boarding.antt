-- Report, Start, End, Finish and Shut keep the invariant: each processor reports at most once in a grace period, and none ends before all have.
use Rattle.std.proofs.Common.{◌≡◌, ℕ, zero, suc, ◌+◌, ◌%◌, ◌<◌, ◌≤◌, List, [], ◌∷◌, ◌++◌, length, refl, sym, subst, ◌∙◌, arith, Bool, Option, Some, None, inl, inr, true, false, not, ◌&&◌, ◌==◌, cond, get_or, set, replicate, nat_lt}
use Rattle.std.proofs.lemmas.Bool.{cases_eq, eq-eqb, ne_eqb, and_parts, not-true, ltb-true, eqb-true}
use Rattle.std.proofs.lemmas.List.{get_or-set_same, get_or-set_other, length-set, get_or-replicate, length-replicate}
use Rattle.rcu_world_law.specs.declared.marks.Mark.{Mark}
use Rattle.rcu_world_law.specs.declared.marks.Mark.TheVariants.{Reported, Shut}
use Rattle.rcu_world_law.specs.States.{State, cpu_at, has, with_mark, with_board, owes, barrier_at}
use Rattle.rcu_world_law.specs.Steps.{is_side, can_finish, finishes}
use Rattle.rcu_world_law.specs.declared.who.Side.{Side}
use Rattle.rcu_world_law.specs.Lists.{none_owes}
use Rattle.rcu_numbers.specs.declared.sequence.TheConstants.{GREATEST_NUMBER}
use Rattle.rcu_world_law.specs.Numbers.{begun}
use Rattle.rcu_world_law.specs.Events.{is_enabled, after}
use Rattle.rcu_world_law.specs.Events.CoreEvent.{Report, Meet, Start, End, Finish, Shut as Shutting}
use Rattle.rcu_world_law.specs.Invariant.{reports, report_of, owed, IsBoard, running_part, IsCore}
use Rattle.rcu_world_law.proofs.Ends.{get_last}
use Rattle.rcu_world_law.proofs.Law.{lawful_next}
use Rattle.rcu_world_law.proofs.Frames.{reports-push, timely_after, placed_after, cpu_later, cpu_after, barrier_after, core_with_cpu, core_with_cpu_mark, opened_after, passed_after, there_after, IsMarkOf}

-- the board takes a report
report_of_same : (p : ℕ) → report_of p (Reported p) ≡ 1
report_of_same p = rw (eq-eqb p p refl) refl

report_of_other : (p q : ℕ) → (q ≡ p → ⊥) → report_of q (Reported p) ≡ 0
report_of_other p q d = rw (ne_eqb p q (λ e. d (sym e))) refl

board_report : (n s : ℕ) (owing : List Bool) (h : List Mark) (p : ℕ) → p < n → get_or owing p false ≡ true → IsBoard n s owing h → IsBoard n s (set owing p false) (h ++ Reported p ∷ [])
board_report n s owing h p l o b = record {
  size = length-set owing p false ∙ b.size;
  phase = b.phase;
  small = b.small;
  reported = λ q m. elim (cases_eq q p) [
    | inl e ↦ subst (λ x. reports x (h ++ Reported p ∷ []) + owed (get_or (set owing p false) x false) ≡ begun s) (sym e)
        (rw (get_or-set_same owing p false false (omega (arith, b.size)))
        (omega (arith, reports-push p h (Reported p), report_of_same p, subst (λ x. reports p h + owed x ≡ begun s) o (b.reported p l))))
    | inr d ↦ rw (get_or-set_other owing p q false false d) (omega (arith, reports-push q h (Reported p), report_of_other p q d, b.reported q m))
  ];
  idle = λ i q m. let was : get_or owing p false ≡ false = b.idle i p l in absurd (let x : true ≡ false = sym o ∙ was in cc);
}

board_silent : (n s : ℕ) (owing : List Bool) (h : List Mark) (p : ℕ) → p < n → get_or owing p false ≡ false → IsBoard n s owing h → IsBoard n s (set owing p false) h
board_silent n s owing h p l o b =
    let same : (q : ℕ) → get_or (set owing p false) q false ≡ get_or owing q false = λ q. elim (cases_eq q p) [
      | inl e ↦ subst (λ x. get_or (set owing p false) x false ≡ get_or owing x false) (sym e) (get_or-set_same owing p false false (omega (arith, b.size)) ∙ sym o)
      | inr d ↦ get_or-set_other owing p q false false d
    ] in
    record {
      size = length-set owing p false ∙ b.size;
      phase = b.phase;
      small = b.small;
      reported = λ q m. rw (same q) (b.reported q m);
      idle = λ i q m. same q ∙ b.idle i q m;
    }

core_with_board : (w : State) (s : ℕ) (owing : List Bool) → w.number ≤ s → IsCore w → IsBoard (length w.cpus) s owing w.history → IsCore (with_mark (with_board w s owing) None)
core_with_board w s owing l k b = record {
  board = b;
  cpu = λ p i. cpu_later (length w.cpus) w.history w.number s w.shape.limit p (cpu_at w p) l (k.cpu p i);
  barrier = k.barrier;
  opened = k.opened;
  passed = k.passed;
  there = k.there;
  lawful = k.lawful;
}

report_step : (w : State) (p : ℕ) → IsCore w → p < length w.cpus → (o : Bool) → owes w p ≡ o → IsCore (with_mark (with_board w w.number (set w.owing p false)) (cond o (Some (Reported p)) None))
report_step w p k l false o = core_with_board w w.number (set w.owing p false) (omega arith) k (board_silent (length w.cpus) w.number w.owing w.history p l o k.board)
report_step w p k l true o = record {
  board = board_report (length w.cpus) w.number w.owing w.history p l o k.board;
  cpu = λ q i. cpu_after (length w.cpus) w.history (Reported p) w.number w.shape.limit q (cpu_at w q) refl refl (λ e. absurd cc) (k.cpu q i);
  barrier = λ b x. barrier_after (length w.cpus) w.history (Reported p) b (barrier_at w b) (λ e. absurd cc) (λ f e. absurd cc) (k.barrier b x);
  opened = opened_after w.history (Reported p) (length w.barriers) (λ b e. absurd cc) k.opened;
  passed = passed_after w.history (Reported p) (length w.barriers) (λ b e. absurd cc) k.passed;
  there = there_after w.history (Reported p) (length w.cpus) (λ q key e. absurd cc) k.there;
  lawful = lawful_next (length w.cpus) w.history (Reported p) tt k.lawful;
}

pub report_kept : (w : State) (p : ℕ) → IsCore w → is_enabled w (Report p) ≡ true → IsCore (after w (Report p))
report_kept w p k e = report_step w p k (ltb-true p (length w.cpus) (and_parts (has w p) _ e).0) (owes w p) refl

-- The driver reports for a processor that is away: the board takes a report of who owes one.
pub meet_kept : (w : State) (p : ℕ) → IsCore w → is_enabled w (Meet p) ≡ true → IsCore (after w (Meet p))
meet_kept w p k e =
    let e1 = and_parts (has w p) ((cpu_at w p).away && owes w p) e in
    report_step w p k (ltb-true p (length w.cpus) e1.0) true (and_parts (cpu_at w p).away (owes w p) e1.1).1

board_start : (n s : ℕ) (owing : List Bool) (h : List Mark) → s % 4 ≡ 0 → s < GREATEST_NUMBER → IsBoard n s owing h → IsBoard n (s + 1) (replicate (length owing) true) h
board_start n s owing h z l b = record {
  size = length-replicate (length owing) true ∙ b.size;
  phase = omega arith;
  small = omega arith;
  reported = λ q m. rw (get_or-replicate (length owing) q true false (omega (arith, b.size)))
      (omega (arith, subst (λ x. reports q h + owed x ≡ begun s) (b.idle z q m) (b.reported q m)));
  idle = λ i q m. absurd (omega arith);
}

pub start_kept : (w : State) → IsCore w → is_enabled w Start ≡ true → IsCore (after w Start)
start_kept w k e =
    let e1 = and_parts (w.number % 4 == 0) (nat_lt w.number w.needed && nat_lt w.number GREATEST_NUMBER) e in
    let e2 = and_parts (nat_lt w.number w.needed) (nat_lt w.number GREATEST_NUMBER) e1.1 in
    core_with_board w (w.number + 1) (replicate (length w.owing) true) (omega arith) k
    (board_start (length w.cpus) w.number w.owing w.history (eqb-true (w.number % 4) 0 e1.0) (ltb-true w.number GREATEST_NUMBER e2.1) k.board)

none_owes_at : (owing : List Bool) (q : ℕ) → none_owes owing ≡ true → get_or owing q false ≡ false
none_owes_at [] q e = refl
none_owes_at (b ∷ bs) zero e = not-true b (and_parts (not b) (none_owes bs) e).0
none_owes_at (b ∷ bs) (suc q) e = none_owes_at bs q (and_parts (not b) (none_owes bs) e).1

board_end : (n s : ℕ) (owing : List Bool) (h : List Mark) → s % 4 ≡ 1 → none_owes owing ≡ true → IsBoard n s owing h → IsBoard n (s + 3) owing h
board_end n s owing h z l b = record {
  size = b.size;
  phase = omega arith;
  small = omega (arith, b.small);
  reported = λ q m. rw (none_owes_at owing q l) (omega (arith, subst (λ x. reports q h + owed x ≡ begun s) (none_owes_at owing q l) (b.reported q m)));
  idle = λ i q m. none_owes_at owing q l;
}

pub end_kept : (w : State) → IsCore w → is_enabled w End ≡ true → IsCore (after w End)
end_kept w k e =
    let e1 = and_parts (w.number % 4 == 1) (none_owes w.owing) e in
    core_with_board w (w.number + 3) w.owing (omega arith) k
    (board_end (length w.cpus) w.number w.owing w.history (eqb-true (w.number % 4) 1 e1.0) e1.1 k.board)

running_side : (by : Side) (o : Option Side) → is_side by o ≡ true → running_part o ≡ 1
running_side by None e = absurd cc
running_side by (Some s) e = refl

pub finish_kept : (w : State) (p : ℕ) (by : Side) → IsCore w → is_enabled w (Finish p by) ≡ true → IsCore (after w (Finish p by))
finish_kept w p by k e =
    let e1 = and_parts (has w p) (can_finish by (cpu_at w p)) e in
    let l : p < length w.cpus = ltb-true p (length w.cpus) e1.0 in
    let i = k.cpu p l in
    let odd : (cpu_at w p).turn % 2 ≡ 1 = i.running ∙ running_side by (cpu_at w p).running e1.1 in
    core_with_cpu w p (finishes (cpu_at w p)) k l
    (record {
      placed = record { keys = i.placed.keys; numbers = i.placed.numbers; count = i.placed.count; turn = omega (arith, i.placed.turn); runs = i.placed.runs; numbered = i.placed.numbered };
      timely = record { stamped = i.timely.stamped; fresh = i.timely.fresh; sight = i.timely.sight; hand_sight = i.timely.hand_sight };
      lists = i.lists;
      running = omega arith;
      ready = i.ready;
      kinds = i.kinds;
      offloaded = i.offloaded;
      shut = record { never = i.shut.never; marked = i.shut.marked };
      one_list = record { own = i.one_list.own; bypass = i.one_list.bypass };
      bounded = i.bounded;
    })

shut_of : (p : ℕ) → IsMarkOf p (Shut p)
shut_of p = record {
  report = λ q. refl;
  other_accepted = λ q d. refl;
  other_ran = λ q d. refl;
  other_shut = λ q d e. d (let f : Shut p ≡ Shut q = e in cc);
  not_opened = λ b e. absurd cc;
  not_passed = λ b e. absurd cc;
  own = λ q k e. absurd cc;
}

pub shut_kept : (w : State) (p : ℕ) → IsCore w → is_enabled w (Shutting p) ≡ true → IsCore (after w (Shutting p))
shut_kept w p k e =
    let l : p < length w.cpus = ltb-true p (length w.cpus) (and_parts (has w p) _ e).0 in
    let i = k.cpu p l in
    let m = placed_after w.history (Shut p) p (cpu_at w p) refl refl i.placed in
    let t = timely_after (length w.cpus) w.history (Shut p) p w.number (cpu_at w p) i.timely in
    core_with_cpu_mark w p (record (cpu_at w p) { shut = true }) (Shut p) k l (shut_of p) tt
    (record {
      placed = record { keys = m.keys; numbers = m.numbers; count = m.count; turn = m.turn; runs = m.runs; numbered = m.numbered };
      timely = record { stamped = t.stamped; fresh = t.fresh; sight = t.sight; hand_sight = t.hand_sight };
      lists = i.lists;
      running = i.running;
      ready = i.ready;
      kinds = i.kinds;
      offloaded = i.offloaded;
      shut = record { never = λ x. absurd (let y : true ≡ false = x in cc); marked = λ x. (length w.history, get_last w.history (Shut p)) };
      one_list = record { own = i.one_list.own; bypass = i.one_list.bypass };
      bounded = i.bounded;
    })
