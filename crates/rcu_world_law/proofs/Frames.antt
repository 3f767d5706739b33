-- What a step leaves as it was: facts on stamps, places and barriers under another number, one more mark, or one processor changed.
use Rattle.std.proofs.Common.{◌≡◌, ℕ, zero, suc, ◌+◌, ◌/◌, ◌%◌, ◌<◌, ◌≤◌, List, [], ◌∷◌, ◌++◌, length, take, map, refl, ap, sym, subst, ◌∙◌, arith, Bool, Some, None, length-append, inl, inr, false, get_or, set}
use Rattle.std.specs.List.{slice_get, AllByRecursion}
use Rattle.std.specs.Option.{option_to_list}
use Rattle.std.proofs.lemmas.Bool.{cases_eq}
use Rattle.std.proofs.lemmas.List.{take_all, append-nil, get_or-set_same, get_or-set_other, length-set}
use Rattle.rcu_world_law.specs.declared.marks.Mark.{Mark}
use Rattle.rcu_world_law.specs.declared.marks.Mark.TheVariants.{Accepted, Opened, Passed, Shut}
use Rattle.rcu_world_law.specs.Calls.{Call}
use Rattle.rcu_world_law.specs.Law.{accepted, ran, key_accepted, key_ran, IsAccepted, IsLawful}
use Rattle.rcu_world_law.specs.States.{State, Cpu, Barrier, no_barrier, cpu_at, empty_cpu, with_cpu, with_mark, barrier_at}
use Rattle.rcu_world_law.specs.Events.{each_cpu}
use Rattle.rcu_world_law.specs.Places.{remaining_callbacks, key_of, stamped_callbacks, offloaded_callbacks}
use Rattle.rcu_world_law.specs.Invariant.{reports, report_of, IsStampFor, IsBoard, IsInOneList, IsBarrier, AreNumbered, IsPlacedInOrder, IsStamped, IsFresh, IsStampedInTime, AreLabelledAt, AreReady, IsOfItsKinds, MayHaveOffloaded, running_part, IsShutAsMarked, IsCpu, IsCore}
use Rattle.rcu_world_law.proofs.LabelledLists.{labelled_later, labelled_seen}
use Rattle.rcu_world_law.specs.Numbers.{begun}
use Rattle.rcu_world_law.proofs.Ends.{get_some_before, get_cases}
use Rattle.rcu_world_law.proofs.Law.{accepted_before, accepted_within, take_before, accepted-push, ran-push, IsNext, lawful_next}

pub all_weaker : {X : Type 0} (P Q : X → Type 0) → ((x : X) → P x → Q x) → (xs : List X) → AllByRecursion P xs → AllByRecursion Q xs
all_weaker P Q f [] a = tt
all_weaker P Q f (x ∷ xs) a = (f x a.0, all_weaker P Q f xs a.1)

pub reports-push : (q : ℕ) (h : List Mark) (m : Mark) → reports q (h ++ m ∷ []) ≡ reports q h + report_of q m
reports-push q [] m = omega arith
reports-push q (x ∷ h) m = omega (arith, reports-push q h m)

-- a grace period that had begun has begun
pub begun_later : (s t : ℕ) → s ≤ t → begun s ≤ begun t
begun_later s t l = omega arith

pub early_later : (n : ℕ) (h : List Mark) (p k s t : ℕ) → s ≤ t → IsStampFor n h p k s → IsStampFor n h p k t
early_later n h p k s t l e = record { each = λ x q a b. let o : reports q (take x h) ≤ begun s = e.each x q a b in omega arith }

pub early_after : (n : ℕ) (h : List Mark) (m : Mark) (p k s : ℕ) → k < length (accepted p h) → IsStampFor n h p k s → IsStampFor n (h ++ m ∷ []) p k s
early_after n h m p k s w e = record {
  each = λ t q a b. elim (get_cases h m (Accepted p a.key) t a.stands) [
    | inl v ↦
        let o : reports q (take t h) ≤ begun s = e.each t q (accepted_before h m p k t v.0 a) b in
        subst (λ x. reports q x ≤ begun s) (sym (take_before h m t (omega (arith, v.0)))) o
    | inr v ↦
        let b' : length (accepted p h) ≡ k = ap (λ x. length (accepted p x)) (sym (take_all (length h) h (omega arith)) ∙ sym (take_before h m (length h) (omega arith)) ∙ ap (λ x. take x (h ++ m ∷ [])) (sym v.0)) ∙ a.before in
        absurd (omega arith)
  ];
}

-- what is new is early by the number at its acceptance
pub early_new : (n : ℕ) (h : List Mark) (p key s : ℕ) → ((q : ℕ) → q < n → reports q h ≤ begun s) → IsStampFor n (h ++ Accepted p key ∷ []) p (length (accepted p h)) s
early_new n h p key s r = record {
  each = λ t q a b. elim (get_cases h (Accepted p key) (Accepted p a.key) t a.stands) [
    | inl v ↦ let w : length (accepted p h) < length (accepted p h) = accepted_within h p (length (accepted p h)) t (accepted_before h (Accepted p key) p (length (accepted p h)) t v.0 a) in absurd (omega arith)
    | inr v ↦
        let e : take t (h ++ Accepted p key ∷ []) ≡ h = ap (λ x. take x (h ++ Accepted p key ∷ [])) v.0 ∙ take_before h (Accepted p key) (length h) (omega arith) ∙ take_all (length h) h (omega arith) in
        subst (λ x. reports q x ≤ begun s) (sym e) (r q b)
  ];
}

pub stamped_later : (n : ℕ) (h : List Mark) (p s t : ℕ) → s ≤ t → (c : Call) → IsStamped n h p s c → IsStamped n h p t c
stamped_later n h p s t l c i = record { early = i.early; within = i.within; past = omega (arith, i.past) }

pub stamped_after : (n : ℕ) (h : List Mark) (m : Mark) (p s : ℕ) (c : Call) → IsStamped n h p s c → IsStamped n (h ++ m ∷ []) p s c
stamped_after n h m p s c i = record {
  early = early_after n h m p c.number c.stamp i.within i.early;
  within = omega (arith, i.within, ap length (accepted-push p h m), length-append (accepted p h) (key_accepted p m));
  past = i.past;
}

pub fresh_later : (n : ℕ) (h : List Mark) (p s t : ℕ) → s ≤ t → (c : Call) → IsFresh n h p s c → IsFresh n h p t c
fresh_later n h p s t l c i = record { early = early_later n h p c.number s t l i.early; within = i.within }

pub fresh_after : (n : ℕ) (h : List Mark) (m : Mark) (p s : ℕ) (c : Call) → IsFresh n h p s c → IsFresh n (h ++ m ∷ []) p s c
fresh_after n h m p s c i = record {
  early = early_after n h m p c.number s i.within i.early;
  within = omega (arith, i.within, ap length (accepted-push p h m), length-append (accepted p h) (key_accepted p m));
}

pub timely_later : (n : ℕ) (h : List Mark) (p s t : ℕ) → s ≤ t → (c : Cpu) → IsStampedInTime n h p s c → IsStampedInTime n h p t c
timely_later n h p s t l c i = record {
  stamped = all_weaker (IsStamped n h p s) (IsStamped n h p t) (stamped_later n h p s t l) (stamped_callbacks c) i.stamped;
  fresh = all_weaker (IsFresh n h p s) (IsFresh n h p t) (fresh_later n h p s t l) (option_to_list c.fresh) i.fresh;
  sight = omega (arith, i.sight);
  hand_sight = omega (arith, i.hand_sight);
}

pub timely_after : (n : ℕ) (h : List Mark) (m : Mark) (p s : ℕ) (c : Cpu) → IsStampedInTime n h p s c → IsStampedInTime n (h ++ m ∷ []) p s c
timely_after n h m p s c i = record {
  stamped = all_weaker (IsStamped n h p s) (IsStamped n (h ++ m ∷ []) p s) (stamped_after n h m p s) (stamped_callbacks c) i.stamped;
  fresh = all_weaker (IsFresh n h p s) (IsFresh n (h ++ m ∷ []) p s) (fresh_after n h m p s) (option_to_list c.fresh) i.fresh;
  sight = i.sight;
  hand_sight = i.hand_sight;
}

-- a mark that is neither an acceptance nor a run of p
pub placed_after : (h : List Mark) (m : Mark) (p : ℕ) (c : Cpu) → key_accepted p m ≡ [] → key_ran p m ≡ [] → IsPlacedInOrder h p c → IsPlacedInOrder (h ++ m ∷ []) p c
placed_after h m p c a r i =
    let ea : accepted p (h ++ m ∷ []) ≡ accepted p h = accepted-push p h m ∙ ap (λ x. accepted p h ++ x) a ∙ append-nil (accepted p h) in
    let er : ran p (h ++ m ∷ []) ≡ ran p h = ran-push p h m ∙ ap (λ x. ran p h ++ x) r ∙ append-nil (ran p h) in
    record {
      keys = rw (ea, er) i.keys;
      numbers = rw er i.numbers;
      count = rw ea i.count;
      turn = rw er i.turn;
      runs = rw er i.runs;
      numbered = i.numbered;
    }

-- a mark that doesn't shut p
pub open_after : (h : List Mark) (m : Mark) (p : ℕ) (c : Cpu) → (m ≡ Shut p → ⊥) → IsShutAsMarked h p c → IsShutAsMarked (h ++ m ∷ []) p c
open_after h m p c x i = record { never = λ s j e. elim (get_cases h m (Shut p) j e) [ inl v ↦ i.never s j v.1 | inr v ↦ x v.1 ]; marked = λ s. let g = i.marked s in (g.0, get_some_before h m (Shut p) g.0 g.1) }

pub lists_later : (s t : ℕ) (c : Cpu) → s ≤ t → AreLabelledAt s c → AreLabelledAt t c
lists_later s t c l i = (labelled_later c.sight s t c.own l i.0, labelled_seen s t t c.joined l (labelled_later s s t c.joined l i.1))

pub cpu_later : (n : ℕ) (h : List Mark) (s t limit p : ℕ) (c : Cpu) → s ≤ t → IsCpu n h s limit p c → IsCpu n h t limit p c
cpu_later n h s t limit p c l i = record { placed = i.placed; timely = timely_later n h p s t l c i.timely; lists = lists_later s t c l i.lists; running = i.running; ready = i.ready; kinds = i.kinds; offloaded = i.offloaded; shut = i.shut; one_list = i.one_list; bounded = i.bounded }

pub cpu_after : (n : ℕ) (h : List Mark) (m : Mark) (s limit p : ℕ) (c : Cpu) → key_accepted p m ≡ [] → key_ran p m ≡ [] → (m ≡ Shut p → ⊥) → IsCpu n h s limit p c → IsCpu n (h ++ m ∷ []) s limit p c
cpu_after n h m s limit p c a r x i = record { placed = placed_after h m p c a r i.placed; timely = timely_after n h m p s c i.timely; lists = i.lists; running = i.running; ready = i.ready; kinds = i.kinds; offloaded = i.offloaded; shut = open_after h m p c x i.shut; one_list = i.one_list; bounded = i.bounded }

pub board_after : (n s : ℕ) (owing : List Bool) (h : List Mark) (m : Mark) → ((q : ℕ) → report_of q m ≡ 0) → IsBoard n s owing h → IsBoard n s owing (h ++ m ∷ [])
board_after n s owing h m z b = record {
  size = b.size;
  phase = b.phase;
  small = b.small;
  reported = λ q l. omega (arith, reports-push q h m, z q, b.reported q l);
  idle = b.idle;
}

-- how many reports there are at a number
pub reported_most : (n s : ℕ) (owing : List Bool) (h : List Mark) → IsBoard n s owing h → (q : ℕ) → q < n → reports q h ≤ begun s
reported_most n s owing h b q l = omega (arith, b.reported q l)

-- a barrier that the mark doesn't name
pub barrier_after : (n : ℕ) (h : List Mark) (m : Mark) (b : ℕ) (v : Barrier) → (m ≡ Opened b → ⊥) → (v.passed ≡ false → m ≡ Passed b → ⊥) → IsBarrier n h b v → IsBarrier n (h ++ m ∷ []) b v
barrier_after n h m b v x y i = record {
  counts = i.counts;
  seens = i.seens;
  opened = (i.opened.0, get_some_before h m (Opened b) i.opened.0 i.opened.1);
  counted = λ o p k t c so a l e. elim (get_cases h m (Opened b) o so) [
    | inl u ↦ i.counted o p k t c u.1 (accepted_before h m p k t (omega (arith, u.0)) a) l e
    | inr u ↦ absurd (x u.1)
  ];
  seen = λ p e. let s = i.seen p e in (s.0, s.1, omega (arith, s.2, ap length (ran-push p h m), length-append (ran p h) (key_ran p m)));
  unpassed = λ f e s. elim (get_cases h m (Passed b) e s) [ inl u ↦ i.unpassed f e u.1 | inr u ↦ y f u.1 ];
}

-- one processor changed
cpus_with : (P : ℕ → Cpu → Type 0) (cs : List Cpu) (p : ℕ) (c : Cpu) → p < length cs → P p c → ((q : ℕ) → q < length cs → (q ≡ p → ⊥) → P q (get_or cs q empty_cpu))
    → (q : ℕ) → q < length (set cs p c) → P q (get_or (set cs p c) q empty_cpu)
cpus_with P cs p c l i others q b = elim (cases_eq q p) [
  | inl f ↦ subst (λ x. P x (get_or (set cs p c) x empty_cpu)) (sym f) (subst (P p) (sym (get_or-set_same cs p c empty_cpu l)) i)
  | inr d ↦ subst (P q) (sym (get_or-set_other cs p q c empty_cpu d)) (others q (omega (arith, length-set cs p c)) d)
]

-- all processors changed
pub length_each : (f : ℕ → Cpu → Cpu) (p : ℕ) (cs : List Cpu) → length (each_cpu f p cs) ≡ length cs
length_each f p [] = refl
length_each f p (c ∷ cs) = ap suc (length_each f (p + 1) cs)

pub cpus_each : (P : ℕ → Cpu → Type 0) (f : ℕ → Cpu → Cpu) → ((q : ℕ) (c : Cpu) → P q c → P q (f q c)) → (from : ℕ) (cs : List Cpu)
    → ((q : ℕ) → q < length cs → P (from + q) (get_or cs q empty_cpu)) → (q : ℕ) → q < length cs → P (from + q) (get_or (each_cpu f from cs) q empty_cpu)
cpus_each P f s from [] a q l = absurd (omega arith)
cpus_each P f s from (c ∷ cs) a zero l =
    let e : from + zero ≡ from = omega arith in
    subst (λ x. P x (f from c)) (sym e) (s from c (subst (λ x. P x c) e (a zero l)))
cpus_each P f s from (c ∷ cs) a (suc q) l =
    let e : (x : ℕ) → from + suc x ≡ (from + 1) + x = λ x. omega arith in
    subst (λ x. P x (get_or (each_cpu f (from + 1) cs) q empty_cpu)) (sym (e q))
    (cpus_each P f s (from + 1) cs (λ x b. subst (λ y. P y (get_or cs x empty_cpu)) (e x) (a (suc x) (omega arith))) q (omega arith))

-- the facts of a state that speak of its history alone, at another number of processors that is the same
pub record IsKept (n : ℕ) (number limit : ℕ) (owing : List Bool) (cpus : List Cpu) (barriers : List Barrier) (h : List Mark) : Type 0 where
  pub board : IsBoard n number owing h
  pub cpu : (p : ℕ) → p < length cpus → IsCpu n h number limit p (get_or cpus p empty_cpu)
  pub barrier : (b : ℕ) → b < length barriers → IsBarrier n h b (get_or barriers b no_barrier)
  pub opened : (b o : ℕ) → slice_get h o ≡ Some (Opened b) → b < length barriers
  pub passed : (b o : ℕ) → slice_get h o ≡ Some (Passed b) → b < length barriers
  pub there : (p k t : ℕ) → IsAccepted h p k t → p < n
  pub lawful : IsLawful n h

pub kept_from : (w : State) → IsCore w → IsKept (length w.cpus) w.number w.shape.limit w.owing w.cpus w.barriers w.history
kept_from w k = record { board = k.board; cpu = k.cpu; barrier = k.barrier; opened = k.opened; passed = k.passed; there = k.there; lawful = k.lawful }

pub core_from : (w : State) (n : ℕ) → n ≡ length w.cpus → IsKept n w.number w.shape.limit w.owing w.cpus w.barriers w.history → IsCore w
core_from w n e k =
    let k' = subst (λ x. IsKept x w.number w.shape.limit w.owing w.cpus w.barriers w.history) e k in
    record { board = k'.board; cpu = k'.cpu; barrier = k'.barrier; opened = k'.opened; passed = k'.passed; there = k'.there; lawful = k'.lawful }

-- a step of one processor with no mark
pub core_with_cpu : (w : State) (p : ℕ) (c : Cpu) → IsCore w → p < length w.cpus → IsCpu (length w.cpus) w.history w.number w.shape.limit p c → IsCore (with_mark (with_cpu w p c) None)
core_with_cpu w p c k l i = core_from (with_mark (with_cpu w p c) None) (length w.cpus) (sym (length-set w.cpus p c)) (record {
  board = k.board;
  cpu = cpus_with (IsCpu (length w.cpus) w.history w.number w.shape.limit) w.cpus p c l i (λ q m d. k.cpu q m);
  barrier = k.barrier;
  opened = k.opened;
  passed = k.passed;
  there = k.there;
  lawful = k.lawful;
})

-- a step of all processors with no mark
pub core_with_all : (w : State) (f : ℕ → Cpu → Cpu) (needed : ℕ) → IsCore w → ((p : ℕ) (c : Cpu) → IsCpu (length w.cpus) w.history w.number w.shape.limit p c → IsCpu (length w.cpus) w.history w.number w.shape.limit p (f p c))
    → IsCore (with_mark (record w { needed = needed; cpus = each_cpu f 0 w.cpus }) None)
core_with_all w f needed k s = core_from (with_mark (record w { needed = needed; cpus = each_cpu f 0 w.cpus }) None) (length w.cpus) (sym (length_each f 0 w.cpus)) (record {
  board = k.board;
  cpu = λ q l. let z : (x : ℕ) → 0 + x ≡ x = λ x. omega arith in
      subst (λ x. IsCpu (length w.cpus) w.history w.number w.shape.limit x (get_or (each_cpu f 0 w.cpus) q empty_cpu)) (z q)
      (cpus_each (IsCpu (length w.cpus) w.history w.number w.shape.limit) f s 0 w.cpus
      (λ x b. subst (λ y. IsCpu (length w.cpus) w.history w.number w.shape.limit y (get_or w.cpus x empty_cpu)) (sym (z x)) (k.cpu x b)) q (omega (arith, length_each f 0 w.cpus)));
  barrier = k.barrier;
  opened = k.opened;
  passed = k.passed;
  there = k.there;
  lawful = k.lawful;
})

-- a mark of one processor
pub record IsMarkOf (p : ℕ) (m : Mark) : Type 0 where
  pub report : (q : ℕ) → report_of q m ≡ 0
  pub other_accepted : (q : ℕ) → (q ≡ p → ⊥) → key_accepted q m ≡ []
  pub other_ran : (q : ℕ) → (q ≡ p → ⊥) → key_ran q m ≡ []
  pub other_shut : (q : ℕ) → (q ≡ p → ⊥) → m ≡ Shut q → ⊥
  pub not_opened : (b : ℕ) → m ≡ Opened b → ⊥
  pub not_passed : (b : ℕ) → m ≡ Passed b → ⊥
  pub own : (q key : ℕ) → m ≡ Accepted q key → q ≡ p

pub opened_after : (h : List Mark) (m : Mark) (n : ℕ) → ((b : ℕ) → m ≡ Opened b → b < n) → ((b o : ℕ) → slice_get h o ≡ Some (Opened b) → b < n) → (b o : ℕ) → slice_get (h ++ m ∷ []) o ≡ Some (Opened b) → b < n
opened_after h m n x i b o s = elim (get_cases h m (Opened b) o s) [ inl u ↦ i b o u.1 | inr u ↦ x b u.1 ]

pub passed_after : (h : List Mark) (m : Mark) (n : ℕ) → ((b : ℕ) → m ≡ Passed b → b < n) → ((b o : ℕ) → slice_get h o ≡ Some (Passed b) → b < n) → (b o : ℕ) → slice_get (h ++ m ∷ []) o ≡ Some (Passed b) → b < n
passed_after h m n x i b o s = elim (get_cases h m (Passed b) o s) [ inl u ↦ i b o u.1 | inr u ↦ x b u.1 ]

pub there_after : (h : List Mark) (m : Mark) (n : ℕ) → ((q key : ℕ) → m ≡ Accepted q key → q < n) → ((p k t : ℕ) → IsAccepted h p k t → p < n) → (p k t : ℕ) → IsAccepted (h ++ m ∷ []) p k t → p < n
there_after h m n x i p k t a = elim (get_cases h m (Accepted p a.key) t a.stands) [ inl u ↦ i p k t (accepted_before h m p k t u.0 a) | inr u ↦ x p a.key u.1 ]

pub core_with_cpu_mark : (w : State) (p : ℕ) (c : Cpu) (m : Mark) → IsCore w → p < length w.cpus → IsMarkOf p m → IsNext (length w.cpus) w.history m
    → IsCpu (length w.cpus) (w.history ++ m ∷ []) w.number w.shape.limit p c → IsCore (with_mark (with_cpu w p c) (Some m))
core_with_cpu_mark w p c m k l o next i = core_from (with_mark (with_cpu w p c) (Some m)) (length w.cpus) (sym (length-set w.cpus p c)) (record {
  board = board_after (length w.cpus) w.number w.owing w.history m o.report k.board;
  cpu = cpus_with (IsCpu (length w.cpus) (w.history ++ m ∷ []) w.number w.shape.limit) w.cpus p c l i
      (λ q b d. cpu_after (length w.cpus) w.history m w.number w.shape.limit q (cpu_at w q) (o.other_accepted q d) (o.other_ran q d) (o.other_shut q d) (k.cpu q b));
  barrier = λ b x. barrier_after (length w.cpus) w.history m b (barrier_at w b) (o.not_opened b) (λ f e. o.not_passed b e) (k.barrier b x);
  opened = opened_after w.history m (length w.barriers) (λ b e. absurd (o.not_opened b e)) k.opened;
  passed = passed_after w.history m (length w.barriers) (λ b e. absurd (o.not_passed b e)) k.passed;
  there = there_after w.history m (length w.cpus) (λ q key e. subst (λ x. x < length w.cpus) (sym (o.own q key e)) l) k.there;
  lawful = lawful_next (length w.cpus) w.history m next k.lawful;
})

-- a step that moves callbacks on, and nothing else that the history knows
pub cpu_moved : (n : ℕ) (h : List Mark) (s limit p : ℕ) (c d : Cpu) → stamped_callbacks d ≡ stamped_callbacks c → d.fresh ≡ c.fresh → d.count ≡ c.count → d.turn ≡ c.turn → d.runs ≡ c.runs → d.shut ≡ c.shut → d.running ≡ c.running
    → AreLabelledAt s d → IsInOneList d → IsOfItsKinds d → MayHaveOffloaded d.mode d.left (offloaded_callbacks d) → d.sight ≤ s → d.hand_sight ≤ s → IsCpu n h s limit p c → IsCpu n h s limit p d
cpu_moved n h s limit p c d places fresh count turn runs shut running lists one_list kinds offloaded sight hand i =
    let both : remaining_callbacks d ≡ remaining_callbacks c = ap (λ x. x ++ option_to_list d.fresh) places ∙ ap (λ x. stamped_callbacks c ++ option_to_list x) fresh in
    record {
      placed = record {
        keys = i.placed.keys ∙ ap (λ x. ran p h ++ map key_of x) (sym both);
        numbers = subst (AreNumbered (length (ran p h))) (sym both) i.placed.numbers;
        count = count ∙ i.placed.count;
        turn = ap (λ x. (x + 1) / 2) turn ∙ i.placed.turn;
        runs = ap (map (λ r. r.call.key)) runs ∙ i.placed.runs;
        numbered = subst (λ x. AreNumbered 0 (map (λ r. r.call) x)) (sym runs) i.placed.numbered;
      };
      timely = record {
        stamped = subst (AllByRecursion (IsStamped n h p s)) (sym places) i.timely.stamped;
        fresh = subst (λ x. AllByRecursion (IsFresh n h p s) (option_to_list x)) (sym fresh) i.timely.fresh;
        sight = sight;
        hand_sight = hand;
      };
      lists = lists;
      running = ap (λ x. x % 2) turn ∙ i.running ∙ ap running_part (sym running);
      shut = record { never = λ e. i.shut.never (sym shut ∙ e); marked = λ e. i.shut.marked (sym shut ∙ e) };
      one_list = one_list;
      kinds = kinds;
      offloaded = offloaded;
      ready = subst AreReady (sym runs) i.ready;
      bounded = subst (λ x. x ≤ limit) (sym count) i.bounded;
    }
