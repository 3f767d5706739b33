-- Claim keeps the invariant, by the processor and by its hand: what is claimed is next in order, and each processor reported since it was accepted.
use Rattle.std.proofs.Common.{◌≡◌, ℕ, zero, suc, ◌+◌, ◌*◌, ◌/◌, ◌%◌, ◌<◌, ◌≤◌, List, [], ◌∷◌, ◌++◌, length, take, map, refl, ap, sym, subst, ◌∙◌, arith, Bool, Some, length-append, append_assoc, inl, inr, ◌⊎◌, true, false, ◌==◌, get_or, nat_le}
use Rattle.std.specs.List.{slice_get, AllByRecursion}
use Rattle.std.specs.Option.{option_to_list}
use Rattle.std.proofs.lemmas.Bool.{cases_eq, ne_eqb, and_parts, ltb-true, eqb-true, leb-true}
use Rattle.std.proofs.lemmas.List.{length-map, append-nil, map-append}
use Rattle.rcu_world_law.specs.declared.marks.Mark.{Mark}
use Rattle.rcu_world_law.specs.declared.marks.Mark.TheVariants.{Accepted, Reported, Ran, Opened, Passed, Shut, Back}
use Rattle.rcu_world_law.specs.declared.labels.Label.{Label}
use Rattle.rcu_world_law.specs.declared.labels.Label.TheVariants.{Done, At, Bare}
use Rattle.rcu_world_law.specs.Calls.{Call}
use Rattle.rcu_world_law.specs.LabelledLists.{Labelled, is_done, call_of}
use Rattle.rcu_numbers.specs.Numbers.{snap_of}
use Rattle.rcu_world_law.specs.Numbers.{begun}
use Rattle.rcu_world_law.specs.Law.{accepted, ran, IsAccepted, IsCovered}
use Rattle.rcu_world_law.specs.States.{State, Cpu, Run, cpu_at, has, with_cpu, with_mark}
use Rattle.rcu_world_law.specs.Steps.{front, can_claim, can_claim_own, can_claim_held, claims}
use Rattle.rcu_world_law.specs.Lists.{tail}
use Rattle.rcu_world_law.specs.declared.who.Side.{Side}
use Rattle.rcu_world_law.specs.declared.who.Side.TheVariants as sides
use Rattle.rcu_world_law.proofs.LabelledLists.{labelled_tail}
use Rattle.rcu_world_law.specs.Events.{is_enabled, after}
use Rattle.rcu_world_law.specs.Events.CoreEvent.{Claim}
use Rattle.rcu_world_law.specs.Invariant.{reports, report_of, owed, IsStampFor, IsBoard, AreNumbered, IsLabelFor, IsStamped, IsFresh, IsStampedInTime, AreLabelledAt, AreReady, IsOfItsKinds, MayHaveOffloaded, running_part, IsInOneList, IsCpu, IsCore}
use Rattle.rcu_world_law.specs.Places.{key_of, flattened, stamped_callbacks, remaining_callbacks, offloaded_callbacks}
use Rattle.rcu_world_law.proofs.Offloaded.{split_own, one_less}
use Rattle.rcu_world_law.proofs.Law.{accepted-push, ran-push, own_ran}
use Rattle.rcu_world_law.proofs.Frames.{timely_after, open_after, core_with_cpu_mark, IsMarkOf}

none_in : (q t : ℕ) → reports q (take t []) < 0 → ⊥
none_in q t l = omega arith

cases_report : (q : ℕ) (m : Mark) → (m ≡ Reported q) ⊎ (report_of q m ≡ 0)
cases_report q (Accepted p key) = inr refl
cases_report q (Reported p) = elim (cases_eq p q) [ inl e ↦ inl (ap Reported e) | inr d ↦ inr (rw (ne_eqb p q d) refl) ]
cases_report q (Ran p key) = inr refl
cases_report q (Opened b) = inr refl
cases_report q (Passed b) = inr refl
cases_report q (Shut p) = inr refl
cases_report q (Back p key) = inr refl

owed_most : (b : Bool) → owed b ≤ 1
owed_most true = omega arith
owed_most false = omega arith

-- at a number, each has reported for all the grace periods that ended
enough : (n s : ℕ) (owing : List Bool) (h : List Mark) (q : ℕ) → IsBoard n s owing h → q < n → s / 4 ≤ reports q h
enough n s owing h q b m = elim (cases_eq (s % 4) 0) [
  | inl z ↦ omega (arith, subst (λ x. reports q h + owed x ≡ begun s) (b.idle z q m) (b.reported q m))
  | inr d ↦ omega (arith, b.reported q m, owed_most (get_or owing q false), b.phase)
]

-- a report is no acceptance, so it stands elsewhere
later : (h : List Mark) (p k t q : ℕ) → IsAccepted h p k t → (i : ℕ) → t ≤ i → slice_get h i ≡ Some (Reported q) → t < i
later h p k t q a i l s = elim (cases_eq t i) [
  | inl e ↦ let x : Some (Accepted p a.key) ≡ Some (Reported q) = sym a.stands ∙ ap (slice_get h) e ∙ s in absurd cc
  | inr d ↦ omega arith
]

done_from : (l : Label) → is_done l ≡ true → l ≡ Done
done_from Done e = refl
done_from (At m) e = absurd cc
done_from Bare e = absurd cc

-- a report between a place and the end
between : (q : ℕ) (h : List Mark) (t : ℕ) → reports q (take t h) < reports q h → (i : ℕ) × (t ≤ i) × (i < length h) × (slice_get h i ≡ Some (Reported q))
between q [] t l = absurd (none_in q t l)
between q (m ∷ h) zero l = elim (cases_report q m) [
  | inl e ↦ (0, omega arith, omega arith, ap Some e)
  | inr e ↦ let g = between q h zero (omega arith) in (suc g.0, omega arith, omega (arith, g.2), g.3)
]
between q (m ∷ h) (suc t) l = let g = between q h t (omega arith) in (suc g.0, omega (arith, g.1), omega (arith, g.2), g.3)

-- the number is next to run, and the callback was there early enough
covered_now : (n s : ℕ) (owing : List Bool) (h : List Mark) (p k stamp sight : ℕ) → IsBoard n s owing h → IsStampFor n h p k stamp → snap_of stamp ≤ sight → sight ≤ s
    → (t : ℕ) → IsAccepted h p k t → IsCovered n h t (length h)
covered_now n s owing h p k stamp sight b e d l t a = record {
  each = λ q m.
      let before : reports q (take t h) ≤ begun stamp = e.each t q a m in
      let upto : s / 4 ≤ reports q h = enough n s owing h q b m in
      let g = between q h t (omega arith) in
      (g.0, later h p k t q a g.0 g.1 g.3, g.2, g.3);
}

ran_of : (p key : ℕ) → IsMarkOf p (Ran p key)
ran_of p key = record {
  report = λ q. refl;
  other_accepted = λ q d. refl;
  other_ran = λ q d. rw (ne_eqb p q (λ e. d (sym e))) refl;
  other_shut = λ q d e. absurd cc;
  not_opened = λ b e. absurd cc;
  not_passed = λ b e. absurd cc;
  own = λ q k e. absurd cc;
}

numbered_at : (k : ℕ) (xs : List Call) (c : Call) (ys : List Call) → AreNumbered k (xs ++ c ∷ ys) → c.number ≡ k + length xs
numbered_at k [] c ys a = omega (arith, a.0)
numbered_at k (x ∷ xs) c ys a = let e : c.number ≡ (k + 1) + length xs = numbered_at (k + 1) xs c ys a.1 in omega arith

nil_of_length : {X : Type 0} (xs : List X) → length xs ≡ 0 → xs ≡ []
nil_of_length [] e = refl
nil_of_length (x ∷ xs) e = absurd (omega arith)

-- one more, whose number is the next
numbered_more : (k : ℕ) (runs : List Run) (r : Run) → AreNumbered k (map (λ x. x.call) runs) → r.call.number ≡ k + length runs → AreNumbered k (map (λ x. x.call) (runs ++ r ∷ []))
numbered_more k [] r a e = (omega (arith, e), tt)
numbered_more k (x ∷ runs) r a e = (a.0, numbered_more (k + 1) runs r a.1 (omega (arith, e)))

-- d is c after f, the first of its places, was taken
pub record IsTaken (c d : Cpu) (f : Call) (ready : ℕ) : Type 0 where
  pub places : stamped_callbacks c ≡ f ∷ stamped_callbacks d
  pub fresh : d.fresh ≡ c.fresh
  pub count : d.count ≡ c.count
  pub was : c.turn ≡ 2 * f.number
  pub turn : d.turn ≡ c.turn + 1
  pub runs : d.runs ≡ c.runs ++ record { call = f; ready = ready } ∷ []
  pub shut : d.shut ≡ c.shut
  pub by : Side
  pub running : d.running ≡ Some by
  pub sight : d.sight ≡ c.sight
  pub hand_sight : d.hand_sight ≡ c.hand_sight

ready_more : (runs : List Run) (r : Run) → AreReady runs → snap_of r.call.stamp ≤ r.ready → AreReady (runs ++ r ∷ [])
ready_more [] r a l = (l, tt)
ready_more (x ∷ runs) r a l = (a.0, ready_more runs r a.1 l)

module _ (n : ℕ) (h : List Mark) (s limit p : ℕ) (c d : Cpu) (f : Call) (ready : ℕ) (t : IsTaken c d f ready) (i : IsCpu n h s limit p c) where
  all_places : remaining_callbacks c ≡ f ∷ remaining_callbacks d
  all_places = ap (λ x. x ++ option_to_list c.fresh) t.places ∙ ap (λ x. f ∷ (stamped_callbacks d ++ option_to_list x)) (sym t.fresh)

  pub taken_first : f.number ≡ length (ran p h)
  taken_first = (subst (AreNumbered (length (ran p h))) all_places i.placed.numbers).0

  pub taken_stamped : IsStamped n h p s f
  taken_stamped = (subst (AllByRecursion (IsStamped n h p s)) t.places i.timely.stamped).0

  pub taken_ordered : accepted p h ≡ ran p h ++ f.key ∷ map key_of (remaining_callbacks d)
  taken_ordered = i.placed.keys ∙ ap (λ x. ran p h ++ map key_of x) all_places

  pub taken_cpu : snap_of f.stamp ≤ ready → AreLabelledAt s d → IsInOneList d → IsOfItsKinds d → MayHaveOffloaded d.mode d.left (offloaded_callbacks d) → IsCpu n (h ++ Ran p f.key ∷ []) s limit p d
  taken_cpu ripe lists one_list kinds offloaded =
      let ea : accepted p (h ++ Ran p f.key ∷ []) ≡ accepted p h = accepted-push p h (Ran p f.key) ∙ append-nil (accepted p h) in
      let er : ran p (h ++ Ran p f.key ∷ []) ≡ ran p h ++ f.key ∷ [] = ran-push p h (Ran p f.key) ∙ ap (λ x. ran p h ++ x) (own_ran p f.key) in
      let el : length (ran p (h ++ Ran p f.key ∷ [])) ≡ length (ran p h) + 1 = ap length er ∙ length-append (ran p h) (f.key ∷ []) in
      let en : AreNumbered (length (ran p h)) (f ∷ remaining_callbacks d) = subst (AreNumbered (length (ran p h))) all_places i.placed.numbers in
      let ti : IsStampedInTime n (h ++ Ran p f.key ∷ []) p s c = timely_after n h (Ran p f.key) p s c i.timely in
      record {
        placed = record {
          keys = ea ∙ taken_ordered ∙ sym (append_assoc (ran p h) (f.key ∷ []) (map key_of (remaining_callbacks d))) ∙ ap (λ x. x ++ map key_of (remaining_callbacks d)) (sym er);
          numbers = subst (λ x. AreNumbered x (remaining_callbacks d)) (sym el) en.1;
          count = t.count ∙ i.placed.count ∙ ap length (sym ea);
          turn = omega (arith, i.placed.turn, t.was, t.turn, en.0, el);
          runs = ap (map (λ r. r.call.key)) t.runs ∙ map-append (λ r. r.call.key) c.runs (record { call = f; ready = ready } ∷ []) ∙ ap (λ x. x ++ f.key ∷ []) i.placed.runs ∙ sym er;
          numbered = subst (λ x. AreNumbered 0 (map (λ r. r.call) x)) (sym t.runs) (numbered_more 0 c.runs (record { call = f; ready = ready }) i.placed.numbered (omega (arith, en.0, ap length (sym i.placed.runs), length-map c.runs (λ r. r.call.key))));
        };
        timely = record {
          stamped = (subst (AllByRecursion (IsStamped n (h ++ Ran p f.key ∷ []) p s)) t.places ti.stamped).1;
          fresh = subst (λ x. AllByRecursion (IsFresh n (h ++ Ran p f.key ∷ []) p s) (option_to_list x)) (sym t.fresh) ti.fresh;
          sight = omega (arith, t.sight, i.timely.sight);
          hand_sight = omega (arith, t.hand_sight, i.timely.hand_sight);
        };
        lists = lists;
        running = omega (arith, ap running_part t.running, t.was, t.turn);
        ready = subst AreReady (sym t.runs) (ready_more c.runs (record { call = f; ready = ready }) i.ready ripe);
        kinds = kinds;
        offloaded = offloaded;
        shut = record { never = λ x. (open_after h (Ran p f.key) p c (λ y. absurd cc) i.shut).never (sym t.shut ∙ x); marked = λ x. (open_after h (Ran p f.key) p c (λ y. absurd cc) i.shut).marked (sym t.shut ∙ x) };
        one_list = one_list;
        bounded = subst (λ x. x ≤ limit) (sym t.count) i.bounded;
      }

-- the step, for either side
taken_kept : (w : State) (p : ℕ) (d : Cpu) (f : Call) (ready : ℕ) → IsCore w → p < length w.cpus → IsTaken (cpu_at w p) d f ready → snap_of f.stamp ≤ ready → ready ≤ w.number
    → AreLabelledAt w.number d → IsInOneList d → IsOfItsKinds d → MayHaveOffloaded d.mode d.left (offloaded_callbacks d) → IsCore (with_mark (with_cpu w p d) (Some (Ran p f.key)))
taken_kept w p d f ready k l t ripe past lists one_list kinds offloaded =
    let i : IsCpu (length w.cpus) w.history w.number w.shape.limit p (cpu_at w p) = k.cpu p l in
    let st = taken_stamped (length w.cpus) w.history w.number w.shape.limit p (cpu_at w p) d f ready t i in
    core_with_cpu_mark w p d (Ran p f.key) k l (ran_of p f.key)
    (record {
      rest = map key_of (remaining_callbacks d);
      ordered = taken_ordered (length w.cpus) w.history w.number w.shape.limit p (cpu_at w p) d f ready t i;
      covered = subst (λ x. (u : ℕ) → IsAccepted w.history p x u → IsCovered (length w.cpus) w.history u (length w.history))
          (taken_first (length w.cpus) w.history w.number w.shape.limit p (cpu_at w p) d f ready t i)
          (covered_now (length w.cpus) w.number w.owing w.history p f.number f.stamp ready k.board st.early ripe past);
    })
    (taken_cpu (length w.cpus) w.history w.number w.shape.limit p (cpu_at w p) d f ready t i ripe lists one_list kinds offloaded)

-- by the hand
record IsHeld (sight : ℕ) (cs : List Call) (turn : ℕ) : Type 0 where
  first : Call
  more : List Call
  is : cs ≡ first ∷ more
  ripe : snap_of first.stamp ≤ sight
  next : turn ≡ 2 * first.number

held_from : (sight : ℕ) (cs : List Call) (turn : ℕ) → can_claim_held sight cs turn ≡ true → IsHeld sight cs turn
held_from sight [] turn e = absurd cc
held_from sight (c ∷ cs) turn e =
    let e1 = and_parts (nat_le (snap_of c.stamp) sight) (turn == 2 * c.number) e in
    record { first = c; more = cs; is = refl; ripe = leb-true (snap_of c.stamp) sight e1.0; next = eqb-true turn (2 * c.number) e1.1 }

first_of_held : (cs : List Call) (f : Call) (more : List Call) → cs ≡ f ∷ more → cs ≡ front cs ∷ tail cs
first_of_held cs f more e = e ∙ ap (λ x. x ∷ more) (sym (ap front e)) ∙ ap (λ x. front cs ∷ x) (sym (ap tail e))

claim_hand : (w : State) (p : ℕ) → IsCore w → p < length w.cpus → can_claim sides.Hand (cpu_at w p) ≡ true → IsCore (after w (Claim p sides.Hand))
claim_hand w p k l e =
    let c : Cpu = cpu_at w p in
    let r : IsHeld (cpu_at w p).hand_sight (cpu_at w p).held (cpu_at w p).turn = held_from (cpu_at w p).hand_sight (cpu_at w p).held (cpu_at w p).turn e in
    let ef : front (cpu_at w p).held ≡ r.first = ap front r.is in
    let i = k.cpu p l in
    taken_kept w p (claims sides.Hand (cpu_at w p)) (front (cpu_at w p).held) (cpu_at w p).hand_sight k l
    (record {
      places = ap (λ x. x ++ (flattened (cpu_at w p).done_lane ++ ((cpu_at w p).out ++ (map call_of (cpu_at w p).joined ++ ((cpu_at w p).drawn ++ (flattened (cpu_at w p).lane ++ ((cpu_at w p).bypass ++ map call_of (cpu_at w p).own)))))))
          (first_of_held (cpu_at w p).held r.first r.more r.is);
      fresh = refl;
      count = refl;
      was = r.next ∙ ap (λ x. 2 * x.number) (sym ef);
      turn = refl;
      runs = refl;
      shut = refl;
      by = sides.Hand;
      running = refl;
      sight = refl;
      hand_sight = refl;
    })
    (subst (λ x. snap_of x.stamp ≤ (cpu_at w p).hand_sight) (sym ef) r.ripe) i.timely.hand_sight i.lists (record { own = i.one_list.own; bypass = i.one_list.bypass }) i.kinds
    (one_less (cpu_at w p).mode (cpu_at w p).left (front (cpu_at w p).held) (tail (cpu_at w p).held ++ (flattened (cpu_at w p).done_lane ++ ((cpu_at w p).out ++ (map call_of (cpu_at w p).joined ++ ((cpu_at w p).drawn ++ (flattened (cpu_at w p).lane ++ (cpu_at w p).bypass))))))
    (subst (λ x. MayHaveOffloaded (cpu_at w p).mode (cpu_at w p).left (x ++ (flattened (cpu_at w p).done_lane ++ ((cpu_at w p).out ++ (map call_of (cpu_at w p).joined ++ ((cpu_at w p).drawn ++ (flattened (cpu_at w p).lane ++ (cpu_at w p).bypass))))))) (first_of_held (cpu_at w p).held r.first r.more r.is) i.offloaded))

-- by the processor
record IsReady (ws : List Labelled) (turn : ℕ) : Type 0 where
  first : Labelled
  more : List Labelled
  is : ws ≡ first ∷ more
  done : first.label ≡ Done
  next : turn ≡ 2 * first.call.number

ready_from : (ws : List Labelled) (turn : ℕ) → can_claim_own ws turn ≡ true → IsReady ws turn
ready_from [] turn e = absurd cc
ready_from (w ∷ ws) turn e =
    let e1 = and_parts (is_done w.label) (turn == 2 * w.call.number) e in
    record { first = w; more = ws; is = refl; done = done_from w.label e1.0; next = eqb-true turn (2 * w.call.number) e1.1 }

-- the turn is that of the front, so nothing stands before the own list
none_before : (n : ℕ) (h : List Mark) (s limit p : ℕ) (c : Cpu) (r : IsReady c.own c.turn) → IsCpu n h s limit p c → offloaded_callbacks c ≡ []
none_before n h s limit p c r i =
    let es : stamped_callbacks c ≡ offloaded_callbacks c ++ r.first.call ∷ map call_of r.more = split_own c c.own ∙ ap (λ x. offloaded_callbacks c ++ map call_of x) r.is in
    let ep : remaining_callbacks c ≡ offloaded_callbacks c ++ r.first.call ∷ (map call_of r.more ++ option_to_list c.fresh) =
    ap (λ x. x ++ option_to_list c.fresh) es ∙ append_assoc (offloaded_callbacks c) (r.first.call ∷ map call_of r.more) (option_to_list c.fresh) in
    let en : r.first.call.number ≡ length (ran p h) + length (offloaded_callbacks c) =
    numbered_at (length (ran p h)) (offloaded_callbacks c) r.first.call (map call_of r.more ++ option_to_list c.fresh) (subst (AreNumbered (length (ran p h))) ep i.placed.numbers) in
    nil_of_length (offloaded_callbacks c) (omega (arith, en, r.next, i.placed.turn))

claim_local : (w : State) (p : ℕ) → IsCore w → p < length w.cpus → can_claim sides.Local (cpu_at w p) ≡ true → IsCore (after w (Claim p sides.Local))
claim_local w p k l e =
    let r : IsReady (cpu_at w p).own (cpu_at w p).turn = ready_from (cpu_at w p).own (cpu_at w p).turn e in
    let i = k.cpu p l in
    let ef : front (map call_of (cpu_at w p).own) ≡ r.first.call = ap (λ x. front (map call_of x)) r.is in
    let et : tail (cpu_at w p).own ≡ r.more = ap tail r.is in
    let eb : offloaded_callbacks (cpu_at w p) ≡ [] = none_before (length w.cpus) w.history w.number w.shape.limit p (cpu_at w p) r i in
    let due : AllByRecursion (λ w'. IsLabelFor (cpu_at w p).sight w'.call.stamp w'.label) (r.first ∷ r.more) = subst (AllByRecursion (λ w'. IsLabelFor (cpu_at w p).sight w'.call.stamp w'.label)) r.is i.lists.0.due in
    taken_kept w p (claims sides.Local (cpu_at w p)) (front (map call_of (cpu_at w p).own)) (cpu_at w p).sight k l
    (record {
      places = split_own (cpu_at w p) (cpu_at w p).own ∙ ap (λ x. x ++ map call_of (cpu_at w p).own) eb ∙ ap (map call_of) r.is ∙ ap (λ x. x ∷ map call_of r.more) (sym ef)
          ∙ ap (λ x. front (map call_of (cpu_at w p).own) ∷ map call_of x) (sym et) ∙ ap (λ x. front (map call_of (cpu_at w p).own) ∷ (x ++ map call_of (tail (cpu_at w p).own))) (sym eb)
          ∙ ap (λ x. front (map call_of (cpu_at w p).own) ∷ x) (sym (split_own (cpu_at w p) (tail (cpu_at w p).own)));
      fresh = refl;
      count = refl;
      was = r.next ∙ ap (λ x. 2 * x.number) (sym ef);
      turn = refl;
      runs = refl;
      shut = refl;
      by = sides.Local;
      running = refl;
      sight = refl;
      hand_sight = refl;
    })
    (subst (λ x. snap_of x.stamp ≤ (cpu_at w p).sight) (sym ef) (subst (IsLabelFor (cpu_at w p).sight r.first.call.stamp) r.done due.0)) i.timely.sight
    (labelled_tail (cpu_at w p).sight w.number (cpu_at w p).own i.lists.0, i.lists.1)
    (record { own = λ x. ap tail (i.one_list.own x); bypass = i.one_list.bypass }) i.kinds i.offloaded

claim_by : (w : State) (p : ℕ) (by : Side) → IsCore w → p < length w.cpus → can_claim by (cpu_at w p) ≡ true → IsCore (after w (Claim p by))
claim_by w p sides.Local k l e = claim_local w p k l e
claim_by w p sides.Hand k l e = claim_hand w p k l e

pub claim_kept : (w : State) (p : ℕ) (by : Side) → IsCore w → is_enabled w (Claim p by) ≡ true → IsCore (after w (Claim p by))
claim_kept w p by k e =
    let e1 = and_parts (has w p) (can_claim by (cpu_at w p)) e in
    claim_by w p by k (ltb-true p (length w.cpus) e1.0) e1.1
