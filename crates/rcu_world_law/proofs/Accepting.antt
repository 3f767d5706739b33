-- Accept and Stamp keep the invariant: the new callback has the next number and stands last, and the number of now is a stamp for its acceptance.
use Rattle.std.proofs.Common.{◌≡◌, ℕ, ◌+◌, ◌/◌, ◌%◌, ◌<◌, ◌≤◌, List, [], ◌∷◌, ◌++◌, length, map, refl, ap, sym, subst, ◌∙◌, arith, Bool, Option, Some, None, length-append, append_assoc, true, false, not, ◌&&◌, cond, nat_lt}
use Rattle.std.specs.List.{AllByRecursion}
use Rattle.std.specs.Option.{option_to_list}
use Rattle.std.proofs.lemmas.Bool.{ne_eqb, and_parts, not-true, ltb-true}
use Rattle.std.proofs.lemmas.List.{append-nil, map-append, length-map}
use Rattle.rcu_world_law.specs.declared.marks.Mark.{Mark}
use Rattle.rcu_world_law.specs.declared.marks.Mark.TheVariants.{Accepted}
use Rattle.rcu_world_law.specs.Calls.{Call}
use Rattle.rcu_world_law.specs.Law.{accepted, ran}
use Rattle.rcu_jobs.specs.Modes.{is_offloaded}
use Rattle.rcu_world_law.specs.States.{State, Cpu, cpu_at, has}
use Rattle.rcu_world_law.specs.Releases.{Pace, differs, pace_after_plain, pace_after_stamp}
use Rattle.rcu_world_law.specs.Steps.{can_accept, accepts, with_stamp, fresh_calls, stamps_into, with_pace, stamps}
use Rattle.rcu_world_law.specs.Lists.{is_none, is_nil}
use Rattle.rcu_world_law.specs.LabelledLists.{bare, call_of}
use Rattle.rcu_world_law.proofs.LabelledLists.{labelled_added}
use Rattle.rcu_world_law.specs.Events.{is_enabled, after}
use Rattle.rcu_world_law.specs.Events.CoreEvent.{Accept, Stamp}
use Rattle.rcu_world_law.specs.Invariant.{reports, IsStampFor, AreNumbered, IsPlacedInOrder, IsStamped, IsFresh, IsStampedInTime, AreLabelledAt, AreReady, IsOfItsKinds, MayHaveOffloaded, running_part, IsInOneList, IsCpu, IsCore}
use Rattle.rcu_world_law.specs.Numbers.{begun}
use Rattle.rcu_world_law.specs.Places.{key_of, flattened, stamped_callbacks, remaining_callbacks, offloaded_callbacks}
use Rattle.rcu_world_law.proofs.Offloaded.{in_offloaded}
use Rattle.rcu_world_law.proofs.Law.{accepted-push, ran-push, own_accepted}
use Rattle.rcu_world_law.proofs.Frames.{early_new, timely_after, open_after, reported_most, core_with_cpu, core_with_cpu_mark, IsMarkOf}

numbered-append : (k : ℕ) (xs : List Call) (c : Call) → AreNumbered k xs → c.number ≡ k + length xs → AreNumbered k (xs ++ c ∷ [])
numbered-append k [] c a e = (omega arith, tt)
numbered-append k (x ∷ xs) c a e = (a.0, numbered-append (k + 1) xs c a.1 (omega arith))

all-push : {X : Type 0} (P : X → Type 0) (xs : List X) (x : X) → AllByRecursion P xs → P x → AllByRecursion P (xs ++ x ∷ [])
all-push P [] x a p = (p, tt)
all-push P (y ∷ xs) x a p = (a.0, all-push P xs x a.1 p)

accepted_of : (p key : ℕ) → IsMarkOf p (Accepted p key)
accepted_of p key = record {
  report = λ q. refl;
  other_accepted = λ q d. rw (ne_eqb p q (λ e. d (sym e))) refl;
  other_ran = λ q d. refl;
  other_shut = λ q d e. absurd cc;
  not_opened = λ b e. absurd cc;
  not_passed = λ b e. absurd cc;
  own = λ q k e. let f : Accepted p key ≡ Accepted q k = e in cc;
}

no_fresh : (f : Option Call) → is_none f ≡ true → f ≡ None
no_fresh None e = refl
no_fresh (Some c) e = absurd cc

is_full : (f : Option Call) → not (is_none f) ≡ true → (c : Call) × (f ≡ Some c)
is_full None e = absurd cc
is_full (Some c) e = (c, refl)

accepts_placed : (h : List Mark) (p key : ℕ) (c : Cpu) → c.fresh ≡ None → IsPlacedInOrder h p c → IsPlacedInOrder (h ++ Accepted p key ∷ []) p (accepts key c)
accepts_placed h p key c f i =
    let old : List Call = stamped_callbacks c in
    let ea : accepted p (h ++ Accepted p key ∷ []) ≡ accepted p h ++ key ∷ [] = accepted-push p h (Accepted p key) ∙ ap (λ x. accepted p h ++ x) (own_accepted p key) in
    let er : ran p (h ++ Accepted p key ∷ []) ≡ ran p h = ran-push p h (Accepted p key) ∙ append-nil (ran p h) in
    let eo : remaining_callbacks c ≡ stamped_callbacks c = ap (λ x. stamped_callbacks c ++ option_to_list x) f ∙ append-nil (stamped_callbacks c) in
    let ek : accepted p h ≡ ran p h ++ map key_of (stamped_callbacks c) = i.keys ∙ ap (λ x. ran p h ++ map key_of x) eo in
    let en : AreNumbered (length (ran p h)) (stamped_callbacks c) = subst (AreNumbered (length (ran p h))) eo i.numbers in
    let el : c.count ≡ length (ran p h) + length (stamped_callbacks c) =
    i.count ∙ ap length ek ∙ length-append (ran p h) (map key_of (stamped_callbacks c)) ∙ ap (λ x. length (ran p h) + x) (length-map (stamped_callbacks c) key_of) in
    record {
      keys = ea ∙ ap (λ x. x ++ key ∷ []) ek ∙ append_assoc (ran p h) (map key_of (stamped_callbacks c)) (key ∷ [])
          ∙ ap (λ x. ran p h ++ x) (sym (map-append key_of (stamped_callbacks c) (record { number = c.count; key = key; stamp = 0 } ∷ [])))
          ∙ ap (λ r. r ++ map key_of (stamped_callbacks c ++ record { number = c.count; key = key; stamp = 0 } ∷ [])) (sym er);
      numbers = rw er (numbered-append (length (ran p h)) (stamped_callbacks c) (record { number = c.count; key = key; stamp = 0 }) en el);
      count = rw ea (omega (arith, i.count, length-append (accepted p h) (key ∷ [])));
      turn = rw er i.turn;
      runs = rw er i.runs;
      numbered = i.numbered;
    }

accepts_timely : (n : ℕ) (h : List Mark) (p key s : ℕ) (c : Cpu) → ((q : ℕ) → q < n → reports q h ≤ begun s) → c.count ≡ length (accepted p h) → IsStampedInTime n h p s c
    → IsStampedInTime n (h ++ Accepted p key ∷ []) p s (accepts key c)
accepts_timely n h p key s c r e i =
    let t : IsStampedInTime n (h ++ Accepted p key ∷ []) p s c = timely_after n h (Accepted p key) p s c i in
    let ea : length (accepted p (h ++ Accepted p key ∷ [])) ≡ length (accepted p h) + 1 = ap length (accepted-push p h (Accepted p key) ∙ ap (λ x. accepted p h ++ x) (own_accepted p key)) ∙ length-append (accepted p h) (key ∷ []) in
    record {
      stamped = t.stamped;
      sight = t.sight;
      hand_sight = t.hand_sight;
      fresh = (record { early = subst (λ k. IsStampFor n (h ++ Accepted p key ∷ []) p k s) (sym e) (early_new n h p key s r); within = omega arith }, tt);
    }

pub accept_kept : (w : State) (p key : ℕ) → IsCore w → is_enabled w (Accept p key) ≡ true → IsCore (after w (Accept p key))
accept_kept w p key k e =
    let c : Cpu = cpu_at w p in
    let e0 = and_parts (has w p) (can_accept w.shape.limit (cpu_at w p)) e in
    let l : p < length w.cpus = ltb-true p (length w.cpus) e0.0 in
    let e1 = and_parts (not (cpu_at w p).away) (not (cpu_at w p).shut && (nat_lt (cpu_at w p).count w.shape.limit && is_none (cpu_at w p).fresh)) e0.1 in
    let e2 = and_parts (not (cpu_at w p).shut) (nat_lt (cpu_at w p).count w.shape.limit && is_none (cpu_at w p).fresh) e1.1 in
    let shut : (cpu_at w p).shut ≡ false = not-true (cpu_at w p).shut e2.0 in
    let e3 = and_parts (nat_lt (cpu_at w p).count w.shape.limit) (is_none (cpu_at w p).fresh) e2.1 in
    let room : (cpu_at w p).count < w.shape.limit = ltb-true (cpu_at w p).count w.shape.limit e3.0 in
    let f : (cpu_at w p).fresh ≡ None = no_fresh (cpu_at w p).fresh e3.1 in
    let i = k.cpu p l in
    core_with_cpu_mark w p (accepts key (cpu_at w p)) (Accepted p key) k l (accepted_of p key) (i.shut.never shut)
    (record {
      placed = accepts_placed w.history p key (cpu_at w p) f i.placed;
      timely = accepts_timely (length w.cpus) w.history p key w.number (cpu_at w p) (reported_most (length w.cpus) w.number w.owing w.history k.board) i.placed.count i.timely;
      lists = i.lists;
      running = i.running;
      ready = i.ready;
      kinds = i.kinds;
      offloaded = i.offloaded;
      shut = record { never = (open_after w.history (Accepted p key) p (cpu_at w p) (λ x. absurd cc) i.shut).never; marked = (open_after w.history (Accepted p key) p (cpu_at w p) (λ x. absurd cc) i.shut).marked };
      one_list = record { own = i.one_list.own; bypass = i.one_list.bypass };
      bounded = omega arith;
    })

-- the stamp: the places keep their numbers and keys
SameCalls : List Call → List Call → Type 0
SameCalls xs ys = (map key_of xs ≡ map key_of ys) × ((k : ℕ) → AreNumbered k ys → AreNumbered k xs)

renumbered : (k : ℕ) (xs : List Call) (c d : Call) → d.number ≡ c.number → AreNumbered k (xs ++ c ∷ []) → AreNumbered k (xs ++ d ∷ [])
renumbered k [] c d e a = (e ∙ a.0, tt)
renumbered k (x ∷ xs) c d e a = (a.0, renumbered (k + 1) xs c d e a.1)

-- d has the fresh callback, with its stamp, behind the others
stamped_cpu : (n : ℕ) (h : List Mark) (s limit p : ℕ) (c d : Cpu) (f : Call) → c.fresh ≡ Some f → stamped_callbacks d ≡ stamped_callbacks c ++ with_stamp s f ∷ [] → d.fresh ≡ None
    → d.count ≡ c.count → d.turn ≡ c.turn → d.runs ≡ c.runs → d.shut ≡ c.shut → d.running ≡ c.running → d.sight ≡ c.sight → d.hand_sight ≡ c.hand_sight
    → AreLabelledAt s d → IsInOneList d → IsOfItsKinds d → MayHaveOffloaded d.mode d.left (offloaded_callbacks d) → IsCpu n h s limit p c → IsCpu n h s limit p d
stamped_cpu n h s limit p c d f e places fresh count turn runs shut running sight hand lists one_list kinds offloaded i =
    let g : IsFresh n h p s f = (subst (λ x. AllByRecursion (IsFresh n h p s) (option_to_list x)) e i.timely.fresh).0 in
    let ed : remaining_callbacks d ≡ stamped_callbacks c ++ with_stamp s f ∷ [] = ap (λ x. stamped_callbacks d ++ option_to_list x) fresh ∙ append-nil (stamped_callbacks d) ∙ places in
    let ec : remaining_callbacks c ≡ stamped_callbacks c ++ f ∷ [] = ap (λ x. stamped_callbacks c ++ option_to_list x) e in
    record {
      placed = record {
        keys = i.placed.keys ∙ ap (λ x. ran p h ++ x) (ap (map key_of) ec ∙ map-append key_of (stamped_callbacks c) (f ∷ []) ∙ sym (map-append key_of (stamped_callbacks c) (with_stamp s f ∷ [])) ∙ ap (map key_of) (sym ed));
        numbers = subst (AreNumbered (length (ran p h))) (sym ed) (renumbered (length (ran p h)) (stamped_callbacks c) f (with_stamp s f) refl (subst (AreNumbered (length (ran p h))) ec i.placed.numbers));
        count = count ∙ i.placed.count;
        turn = ap (λ x. (x + 1) / 2) turn ∙ i.placed.turn;
        runs = ap (map (λ r. r.call.key)) runs ∙ i.placed.runs;
        numbered = subst (λ x. AreNumbered 0 (map (λ r. r.call) x)) (sym runs) i.placed.numbered;
      };
      timely = record {
        stamped = subst (AllByRecursion (IsStamped n h p s)) (sym places)
            (all-push (IsStamped n h p s) (stamped_callbacks c) (with_stamp s f) i.timely.stamped (record { early = g.early; within = g.within; past = omega arith }));
        fresh = subst (λ x. AllByRecursion (IsFresh n h p s) (option_to_list x)) (sym fresh) tt;
        sight = omega (arith, i.timely.sight);
        hand_sight = omega (arith, i.timely.hand_sight);
      };
      lists = lists;
      running = ap (λ x. x % 2) turn ∙ i.running ∙ ap running_part (sym running);
      shut = record { never = λ x. i.shut.never (sym shut ∙ x); marked = λ x. i.shut.marked (sym shut ∙ x) };
      one_list = one_list;
      kinds = kinds;
      offloaded = offloaded;
      ready = subst AreReady (sym runs) i.ready;
      bounded = subst (λ x. x ≤ limit) (sym count) i.bounded;
    }

-- one more at the end of the last of the places
behind : (a b c d e f g h x : List Call) → a ++ (b ++ (c ++ (d ++ (e ++ (f ++ (g ++ (h ++ x))))))) ≡ (a ++ (b ++ (c ++ (d ++ (e ++ (f ++ (g ++ h))))))) ++ x
behind a b c d e f g h x = simp append_assoc

-- the bypass list now holds a callback of the kind that it was placed with
chosen_plain : (b : Bool) (x y : Pace) → x.plain ≡ true → y.plain ≡ true → (cond b x y).plain ≡ true
chosen_plain true x y e f = e
chosen_plain false x y e f = f

placed_plain : (m : ℕ) (c : Cpu) → (pace_after_plain m c).plain ≡ true
placed_plain m c = chosen_plain (differs c.moment m) _ _ refl (chosen_plain (not (is_none c.kept_moment)) _ _ refl (chosen_plain (is_nil c.bypass && nat_lt c.direct 16) _ _ refl refl))

kept_first : (m : ℕ) (o : Option ℕ) → is_none (cond (is_none o) (Some m) o) ≡ false
kept_first m None = refl
kept_first m (Some n) = refl

and_false : (b : Bool) → (b && false) ≡ false
and_false true = refl
and_false false = refl

placed_kinds : (lazy : Bool) (m : ℕ) (c : Cpu) → (not (pace_after_stamp lazy m c).plain && is_none (pace_after_stamp lazy m c).kept_moment) ≡ false
placed_kinds true m c = ap (λ x. not c.plain && x) (kept_first m c.kept_moment) ∙ and_false (not c.plain)
placed_kinds false m c = ap (λ x. not x && is_none (pace_after_plain m c).kept_moment) (placed_plain m c)

not_nil : (xs : List Call) (x : Call) → is_nil (xs ++ x ∷ []) ≡ false
not_nil [] x = refl
not_nil (y ∷ xs) x = refl

stamps_step : (n : ℕ) (h : List Mark) (s limit p m : ℕ) (lazy b : Bool) (c : Cpu) (f : Call) → is_offloaded c.mode ≡ b → c.fresh ≡ Some f → IsCpu n h s limit p c
    → IsCpu n h s limit p (cond b (with_pace (pace_after_stamp lazy m c) (stamps_into true s c)) (stamps_into false s c))
stamps_step n h s limit p m lazy true c f o e i =
    let own : c.own ≡ [] = i.one_list.own o in
    stamped_cpu n h s limit p c (with_pace (pace_after_stamp lazy m c) (stamps_into true s c)) f e
    (ap (λ x. c.held ++ (flattened c.done_lane ++ (c.out ++ (map call_of c.joined ++ (c.drawn ++ (flattened c.lane ++ ((c.bypass ++ fresh_calls s x) ++ map call_of c.own))))))) e
    ∙ ap (λ x. c.held ++ (flattened c.done_lane ++ (c.out ++ (map call_of c.joined ++ (c.drawn ++ (flattened c.lane ++ ((c.bypass ++ with_stamp s f ∷ []) ++ map call_of x))))))) own
    ∙ (let r = behind c.held (flattened c.done_lane) c.out (map call_of c.joined) c.drawn (flattened c.lane) c.bypass [] (with_stamp s f ∷ []) in simp (append-nil, append_assoc))
    ∙ ap (λ x. (c.held ++ (flattened c.done_lane ++ (c.out ++ (map call_of c.joined ++ (c.drawn ++ (flattened c.lane ++ (c.bypass ++ map call_of x))))))) ++ with_stamp s f ∷ []) (sym own))
    refl refl refl refl refl refl refl refl i.lists
    (record { own = i.one_list.own; bypass = λ x. absurd (let y : true ≡ false = sym o ∙ x in cc) })
    (ap (λ x. is_nil (c.bypass ++ fresh_calls s x)) e ∙ not_nil c.bypass (with_stamp s f) ∙ sym (placed_kinds lazy m c)) (in_offloaded c.mode c.left _ o) i
stamps_step n h s limit p m lazy false c f o e i =
    stamped_cpu n h s limit p c (stamps_into false s c) f e
    (ap (λ x. c.held ++ (flattened c.done_lane ++ (c.out ++ (map call_of c.joined ++ (c.drawn ++ (flattened c.lane ++ (c.bypass ++ map call_of (c.own ++ map bare (fresh_calls s x))))))))) e
    ∙ simp (map-append, append_assoc))
    refl refl refl refl refl refl refl refl
    (labelled_added c.sight s c.own (fresh_calls s c.fresh) i.lists.0, i.lists.1)
    (record { own = λ x. absurd (let y : true ≡ false = sym x ∙ o in cc); bypass = i.one_list.bypass }) i.kinds i.offloaded i

pub stamp_kept : (w : State) (p m : ℕ) (lazy : Bool) → IsCore w → is_enabled w (Stamp p m lazy) ≡ true → IsCore (after w (Stamp p m lazy))
stamp_kept w p m lazy k e =
    let e1 = and_parts (has w p) (not (is_none (cpu_at w p).fresh)) e in
    let l : p < length w.cpus = ltb-true p (length w.cpus) e1.0 in
    let some : (f : Call) × ((cpu_at w p).fresh ≡ Some f) = is_full (cpu_at w p).fresh e1.1 in
    core_with_cpu w p (stamps w.number m lazy (cpu_at w p)) k l
    (stamps_step (length w.cpus) w.history w.number w.shape.limit p m lazy (is_offloaded (cpu_at w p).mode) (cpu_at w p) some.0 refl some.1 (k.cpu p l))
