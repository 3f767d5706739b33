-- Events that move callbacks on to the next place, or change what only the parts know, keep the invariant: what stands in the places, in order, stays the same.
use Rattle.std.proofs.Common.{◌≡◌, ℕ, ◌/◌, ◌<◌, List, [], ◌∷◌, ◌++◌, length, take, drop, map, refl, ap, sym, ◌∙◌, arith, Bool, Option, Some, None, append_assoc, true, false, not, ◌&&◌, ◌||◌, cond, nat_le}
use Rattle.std.proofs.lemmas.Bool.{and_parts, ltb-true, leb-true}
use Rattle.std.proofs.lemmas.List.{append-nil, take-append-drop, map-append}
use Rattle.rcu_world_law.specs.declared.marks.Mark.{Mark}
use Rattle.rcu_world_law.specs.Calls.{Call}
use Rattle.rcu_world_law.specs.LabelledLists.{Labelled, bare, call_of}
use Rattle.rcu_jobs.specs.Modes.{is_offloaded, is_deoffloading}
use Rattle.rcu_world_law.specs.States.{State, Cpu, cpu_at, has, is_offloadable, with_cpu, with_mark}
use Rattle.rcu_world_law.specs.Releases.{Pace, pace_after_put}
use Rattle.rcu_world_law.specs.Steps.{with_pace, hand_looks, given_count, puts, draws, joins, gives, fetches, pours, leaves, heeds_mode, heeds, settles}
use Rattle.rcu_world_law.specs.Lists.{is_none, is_nil, first_batch, tail, needed_with}
use Rattle.rcu_jobs.specs.declared.modes.Mode.{Mode}
use Rattle.rcu_jobs.specs.declared.modes.Mode.TheVariants.{Local, Offloading, Offloaded, Deoffloading}
use Rattle.rcu_world_law.specs.declared.who.Who.TheVariants as who
use Rattle.rcu_world_law.proofs.LabelledLists.{labelled_nothing, labelled_added, labelled_dropped}
use Rattle.rcu_world_law.specs.Events.{is_enabled, after}
use Rattle.rcu_world_law.specs.Events.CoreEvent.{Put, LookHand, Need, Draw, Join, Give, Fetch, Ask, Heed, Settle, Hear, Leave, Return}
use Rattle.rcu_world_law.specs.Invariant.{IsCpu, IsCore, MayHaveOffloaded}
use Rattle.rcu_world_law.specs.Places.{flattened, stamped_callbacks, offloaded_callbacks}
use Rattle.rcu_world_law.proofs.Offloaded.{still_offloaded, leaving, settling}
use Rattle.rcu_world_law.proofs.Frames.{core_with_cpu, cpu_moved}

-- the first batch of a lane
first_and_rest : (b : List (List Call)) → flattened b ≡ first_batch b ++ flattened (tail b)
first_and_rest [] = refl
first_and_rest (x ∷ b) = refl

flattened-push : (bs : List (List Call)) (b : List Call) → flattened (bs ++ b ∷ []) ≡ flattened bs ++ b
flattened-push [] b = append-nil b
flattened-push (x ∷ bs) b = ap (λ l. x ++ l) (flattened-push bs b) ∙ sym (append_assoc x (flattened bs) b)

calls_bare : (cs : List Call) → map call_of (map bare cs) ≡ cs
calls_bare [] = refl
calls_bare (c ∷ cs) = ap (λ l. c ∷ l) (calls_bare cs)

nil_from : {X : Type 0} (xs : List X) → is_nil xs ≡ true → xs ≡ []
nil_from [] e = refl
nil_from (x ∷ xs) e = absurd cc

-- Put
puts_places : (t : Pace) (c : Cpu) → stamped_callbacks (with_pace t (puts c)) ≡ stamped_callbacks c
puts_places t c = rw flattened-push (simp append_assoc)

-- an empty list holds no callback of either kind
put_kinds : (m : Option ℕ) (c : Cpu) → true ≡ (not (pace_after_put m c).plain && is_none (pace_after_put m c).kept_moment)
put_kinds None c = refl
put_kinds (Some m) c = refl

put_cpu : (n : ℕ) (h : List Mark) (s limit p : ℕ) (t : Pace) (c : Cpu) → true ≡ (not t.plain && is_none t.kept_moment) → IsCpu n h s limit p c → IsCpu n h s limit p (with_pace t (puts c))
put_cpu n h s limit p t c kinds i = cpu_moved n h s limit p c (with_pace t (puts c)) (puts_places t c) refl refl refl refl refl refl i.lists
    (record { own = i.one_list.own; bypass = λ x. refl }) kinds (still_offloaded c (with_pace t (puts c)) (puts_places t c) refl i.offloaded) i.timely.sight i.timely.hand_sight i

pub put_kept : (w : State) (p : ℕ) (m : Option ℕ) → IsCore w → is_enabled w (Put p m) ≡ true → IsCore (after w (Put p m))
put_kept w p m k e =
    let l : p < length w.cpus = ltb-true p (length w.cpus) (and_parts (has w p) _ e).0 in
    core_with_cpu w p (with_pace (pace_after_put m (cpu_at w p)) (puts (cpu_at w p))) k l (put_cpu (length w.cpus) w.history w.number w.shape.limit p (pace_after_put m (cpu_at w p)) (cpu_at w p) (put_kinds m (cpu_at w p)) (k.cpu p l))

-- Draw
draws_places : (c : Cpu) → c.drawn ≡ [] → stamped_callbacks (draws c) ≡ stamped_callbacks c
draws_places c e =
    ap (λ x. c.held ++ (flattened c.done_lane ++ (c.out ++ (map call_of c.joined ++ x))))
    (sym (append_assoc (first_batch c.lane) (flattened (tail c.lane)) (c.bypass ++ map call_of c.own)) ∙ ap (λ x. x ++ (c.bypass ++ map call_of c.own)) (sym (first_and_rest c.lane))
    ∙ ap (λ x. x ++ (flattened c.lane ++ (c.bypass ++ map call_of c.own))) (sym e))

pub draw_kept : (w : State) (p : ℕ) → IsCore w → is_enabled w (Draw p) ≡ true → IsCore (after w (Draw p))
draw_kept w p k e =
    let e1 = and_parts (has w p) _ e in
    let e2 = and_parts (not (is_nil (cpu_at w p).lane)) (is_nil (cpu_at w p).drawn) e1.1 in
    let l : p < length w.cpus = ltb-true p (length w.cpus) e1.0 in
    let i = k.cpu p l in
    core_with_cpu w p (draws (cpu_at w p)) k l
    (cpu_moved (length w.cpus) w.history w.number w.shape.limit p (cpu_at w p) (draws (cpu_at w p)) (draws_places (cpu_at w p) (nil_from (cpu_at w p).drawn e2.1))
    refl refl refl refl refl refl i.lists (record { own = i.one_list.own; bypass = i.one_list.bypass }) i.kinds (still_offloaded (cpu_at w p) (draws (cpu_at w p)) (draws_places (cpu_at w p) (nil_from (cpu_at w p).drawn e2.1)) refl i.offloaded) i.timely.sight i.timely.hand_sight i)

-- Join
joins_places : (c : Cpu) → stamped_callbacks (joins c) ≡ stamped_callbacks c
joins_places c = rw (map-append, calls_bare) (simp append_assoc)

pub join_kept : (w : State) (p : ℕ) → IsCore w → is_enabled w (Join p) ≡ true → IsCore (after w (Join p))
join_kept w p k e =
    let l : p < length w.cpus = ltb-true p (length w.cpus) (and_parts (has w p) _ e).0 in
    let i = k.cpu p l in
    core_with_cpu w p (joins (cpu_at w p)) k l
    (cpu_moved (length w.cpus) w.history w.number w.shape.limit p (cpu_at w p) (joins (cpu_at w p)) (joins_places (cpu_at w p))
    refl refl refl refl refl refl (i.lists.0, labelled_added w.number w.number (cpu_at w p).joined (cpu_at w p).drawn i.lists.1) (record { own = i.one_list.own; bypass = i.one_list.bypass }) i.kinds (still_offloaded (cpu_at w p) (joins (cpu_at w p)) (joins_places (cpu_at w p)) refl i.offloaded) i.timely.sight i.timely.hand_sight i)

-- Give
gives_calls : (n : ℕ) (ws : List Labelled) → map call_of (take n ws) ++ map call_of (drop n ws) ≡ map call_of ws
gives_calls n ws = sym (map-append call_of (take n ws) (drop n ws)) ∙ ap (map call_of) (take-append-drop n ws)

gives_places : (blimit : ℕ) (c : Cpu) → stamped_callbacks (gives blimit c) ≡ stamped_callbacks c
gives_places blimit c =
    rw flattened-push (rw (← gives_calls (given_count blimit c) c.joined) (simp append_assoc))

pub give_kept : (w : State) (p : ℕ) → IsCore w → is_enabled w (Give p) ≡ true → IsCore (after w (Give p))
give_kept w p k e =
    let l : p < length w.cpus = ltb-true p (length w.cpus) (and_parts (has w p) _ e).0 in
    let i = k.cpu p l in
    core_with_cpu w p (gives w.shape.blimit (cpu_at w p)) k l
    (cpu_moved (length w.cpus) w.history w.number w.shape.limit p (cpu_at w p) (gives w.shape.blimit (cpu_at w p)) (gives_places w.shape.blimit (cpu_at w p))
    refl refl refl refl refl refl (i.lists.0, labelled_dropped w.number w.number (given_count w.shape.blimit (cpu_at w p)) (cpu_at w p).joined i.lists.1) (record { own = i.one_list.own; bypass = i.one_list.bypass }) i.kinds (still_offloaded (cpu_at w p) (gives w.shape.blimit (cpu_at w p)) (gives_places w.shape.blimit (cpu_at w p)) refl i.offloaded) i.timely.sight i.timely.hand_sight i)

-- Fetch
fetches_places : (c : Cpu) → c.held ≡ [] → stamped_callbacks (fetches c) ≡ stamped_callbacks c
fetches_places c e =
    let more : List Call = c.out ++ (map call_of c.joined ++ (c.drawn ++ (flattened c.lane ++ (c.bypass ++ map call_of c.own)))) in
    sym (append_assoc (first_batch c.done_lane) (flattened (tail c.done_lane)) more) ∙ ap (λ x. x ++ more) (sym (first_and_rest c.done_lane))
    ∙ ap (λ x. x ++ (flattened c.done_lane ++ more)) (sym e)

pub fetch_kept : (w : State) (p : ℕ) → IsCore w → is_enabled w (Fetch p) ≡ true → IsCore (after w (Fetch p))
fetch_kept w p k e =
    let e1 = and_parts (has w p) _ e in
    let e2 = and_parts (is_nil (cpu_at w p).held) (not (is_nil (cpu_at w p).done_lane)) e1.1 in
    let l : p < length w.cpus = ltb-true p (length w.cpus) e1.0 in
    let i = k.cpu p l in
    core_with_cpu w p (fetches (cpu_at w p)) k l
    (cpu_moved (length w.cpus) w.history w.number w.shape.limit p (cpu_at w p) (fetches (cpu_at w p)) (fetches_places (cpu_at w p) (nil_from (cpu_at w p).held e2.0))
    refl refl refl refl refl refl i.lists (record { own = i.one_list.own; bypass = i.one_list.bypass }) i.kinds (still_offloaded (cpu_at w p) (fetches (cpu_at w p)) (fetches_places (cpu_at w p) (nil_from (cpu_at w p).held e2.0)) refl i.offloaded) i.timely.sight i.timely.hand_sight i)

-- what only the parts know
has_offloadable : (w : State) (p : ℕ) → is_offloadable w p ≡ true → p < length w.cpus
has_offloadable w p e = ltb-true p (length w.cpus) (and_parts (has w p) _ e).0

pub look_hand_kept : (w : State) (p : ℕ) → IsCore w → is_enabled w (LookHand p) ≡ true → IsCore (after w (LookHand p))
look_hand_kept w p k e =
    let l = has_offloadable w p e in
    let i = k.cpu p l in
    core_with_cpu w p (hand_looks w.number (cpu_at w p)) k l
    (cpu_moved (length w.cpus) w.history w.number w.shape.limit p (cpu_at w p) (hand_looks w.number (cpu_at w p)) refl
    refl refl refl refl refl refl i.lists (record { own = i.one_list.own; bypass = i.one_list.bypass }) i.kinds i.offloaded i.timely.sight (omega arith) i)

pub ask_kept : (w : State) (p : ℕ) (on : Bool) → IsCore w → is_enabled w (Ask p on) ≡ true → IsCore (after w (Ask p on))
ask_kept w p on k e =
    let l = has_offloadable w p e in
    let i = k.cpu p l in
    core_with_cpu w p (record (cpu_at w p) { asked = on }) k l
    (cpu_moved (length w.cpus) w.history w.number w.shape.limit p (cpu_at w p) (record (cpu_at w p) { asked = on }) refl
    refl refl refl refl refl refl i.lists (record { own = i.one_list.own; bypass = i.one_list.bypass }) i.kinds i.offloaded i.timely.sight i.timely.hand_sight i)

pub hear_kept : (w : State) (p : ℕ) → IsCore w → is_enabled w (Hear p) ≡ true → IsCore (after w (Hear p))
hear_kept w p k e =
    let l = has_offloadable w p e in
    let i = k.cpu p l in
    core_with_cpu w p (record (cpu_at w p) { urged = false }) k l
    (cpu_moved (length w.cpus) w.history w.number w.shape.limit p (cpu_at w p) (record (cpu_at w p) { urged = false }) refl
    refl refl refl refl refl refl i.lists (record { own = i.one_list.own; bypass = i.one_list.bypass }) i.kinds i.offloaded i.timely.sight i.timely.hand_sight i)

away_kept : (w : State) (p : ℕ) (away : Bool) → IsCore w → p < length w.cpus → IsCore (with_mark (with_cpu w p (record (cpu_at w p) { away = away })) None)
away_kept w p away k l =
    let i = k.cpu p l in
    core_with_cpu w p (record (cpu_at w p) { away = away }) k l
    (cpu_moved (length w.cpus) w.history w.number w.shape.limit p (cpu_at w p) (record (cpu_at w p) { away = away }) refl
    refl refl refl refl refl refl i.lists (record { own = i.one_list.own; bypass = i.one_list.bypass }) i.kinds i.offloaded i.timely.sight i.timely.hand_sight i)

pub leave_kept : (w : State) (p : ℕ) → IsCore w → is_enabled w (Leave p) ≡ true → IsCore (after w (Leave p))
leave_kept w p k e = away_kept w p true k (ltb-true p (length w.cpus) (and_parts (has w p) _ e).0)

pub return_kept : (w : State) (p : ℕ) → IsCore w → is_enabled w (Return p) ≡ true → IsCore (after w (Return p))
return_kept w p k e = away_kept w p false k (ltb-true p (length w.cpus) (and_parts (has w p) _ e).0)

pub need_own_kept : (w : State) (p : ℕ) → IsCore w → is_enabled w (Need (who.Cpu p)) ≡ true → IsCore (after w (Need (who.Cpu p)))
need_own_kept w p k e =
    let l : p < length w.cpus = ltb-true p (length w.cpus) (and_parts (has w p) _ e).0 in
    let i = k.cpu p l in
    let w' : State = record w { needed = needed_with w.needed (cpu_at w p).wanted } in
    let k' : IsCore (record w { needed = needed_with w.needed (cpu_at w p).wanted }) = record { board = k.board; cpu = k.cpu; barrier = k.barrier; opened = k.opened; passed = k.passed; there = k.there; lawful = k.lawful } in
    core_with_cpu (record w { needed = needed_with w.needed (cpu_at w p).wanted }) p (record (cpu_at w p) { wanted = None }) k' l
    (cpu_moved (length w.cpus) w.history w.number w.shape.limit p (cpu_at w p) (record (cpu_at w p) { wanted = None }) refl
    refl refl refl refl refl refl i.lists (record { own = i.one_list.own; bypass = i.one_list.bypass }) i.kinds i.offloaded i.timely.sight i.timely.hand_sight i)

-- Heed
-- poured callbacks count as plain
pours_kinds : (ws : List Labelled) (plain : Bool) (kept : Option ℕ) → true ≡ (not plain && is_none kept) → is_nil (map call_of ws) ≡ (not (not (is_nil ws) || plain) && is_none kept)
pours_kinds [] plain kept e = e
pours_kinds (w ∷ ws) plain kept e = refl

pours_cpu : (n : ℕ) (h : List Mark) (s limit p : ℕ) (c : Cpu) → is_offloaded c.mode ≡ false → IsCpu n h s limit p c → IsCpu n h s limit p (pours c)
pours_cpu n h s limit p c e i = cpu_moved n h s limit p c (pours c) (simp (append_assoc, append-nil)) refl refl refl refl refl refl (labelled_nothing c.sight s, i.lists.1)
    (record { own = λ x. refl; bypass = λ x. absurd cc })
    (ap (λ x. is_nil (x ++ map call_of c.own)) (i.one_list.bypass e) ∙ pours_kinds c.own c.plain c.kept_moment (ap is_nil (sym (i.one_list.bypass e)) ∙ i.kinds)) tt i.timely.sight i.timely.hand_sight i

-- another mode, by which the bypass list is to be empty
mode_cpu : (n : ℕ) (h : List Mark) (s limit p : ℕ) (c : Cpu) (m : Mode) (left : ℕ) → is_offloaded m ≡ false → c.bypass ≡ [] → MayHaveOffloaded m left (offloaded_callbacks c) → IsCpu n h s limit p c → IsCpu n h s limit p (record c { mode = m; left = left })
mode_cpu n h s limit p c m left e b offloaded i = cpu_moved n h s limit p c (record c { mode = m; left = left }) refl refl refl refl refl refl refl i.lists
    (record { own = λ x. absurd (let y : true ≡ false = sym x ∙ e in cc); bypass = λ x. b }) i.kinds offloaded i.timely.sight i.timely.hand_sight i

leaves_if_empty : (n : ℕ) (h : List Mark) (s limit p : ℕ) (c : Cpu) (b : Bool) → is_nil c.bypass ≡ b → IsCpu n h s limit p c → IsCpu n h s limit p (cond b (leaves c) c)
leaves_if_empty n h s limit p c true e i = mode_cpu n h s limit p c Deoffloading c.count refl (nil_from c.bypass e) (leaving h p c i.placed) i
leaves_if_empty n h s limit p c false e i = i

heeds_cpu : (n : ℕ) (h : List Mark) (s limit p : ℕ) (c : Cpu) (asked poured : Bool) (m : Mode) → c.mode ≡ m → IsCpu n h s limit p c → IsCpu n h s limit p (heeds_mode asked poured m c)
heeds_cpu n h s limit p c true true Local e i = pours_cpu n h s limit p c (ap is_offloaded e) i
heeds_cpu n h s limit p c true true Offloading e i = pours_cpu n h s limit p c (ap is_offloaded e) i
heeds_cpu n h s limit p c true true Deoffloading e i = pours_cpu n h s limit p c (ap is_offloaded e) i
heeds_cpu n h s limit p c true false Local e i = mode_cpu n h s limit p c Offloading c.left refl (i.one_list.bypass (ap is_offloaded e)) tt i
heeds_cpu n h s limit p c true false Offloading e i = i
heeds_cpu n h s limit p c true false Deoffloading e i = mode_cpu n h s limit p c Offloading c.left refl (i.one_list.bypass (ap is_offloaded e)) tt i
heeds_cpu n h s limit p c true true Offloaded e i = i
heeds_cpu n h s limit p c true false Offloaded e i = i
heeds_cpu n h s limit p c false true Local e i = i
heeds_cpu n h s limit p c false false Local e i = i
heeds_cpu n h s limit p c false true Offloading e i = mode_cpu n h s limit p c Deoffloading c.count refl (i.one_list.bypass (ap is_offloaded e)) (leaving h p c i.placed) i
heeds_cpu n h s limit p c false false Offloading e i = mode_cpu n h s limit p c Deoffloading c.count refl (i.one_list.bypass (ap is_offloaded e)) (leaving h p c i.placed) i
heeds_cpu n h s limit p c false true Offloaded e i = leaves_if_empty n h s limit p c (is_nil c.bypass) refl i
heeds_cpu n h s limit p c false false Offloaded e i = leaves_if_empty n h s limit p c (is_nil c.bypass) refl i
heeds_cpu n h s limit p c false true Deoffloading e i = i
heeds_cpu n h s limit p c false false Deoffloading e i = i

pub heed_kept : (w : State) (p : ℕ) (poured : Bool) → IsCore w → is_enabled w (Heed p poured) ≡ true → IsCore (after w (Heed p poured))
heed_kept w p poured k e =
    let l = has_offloadable w p e in
    core_with_cpu w p (heeds poured (cpu_at w p)) k l
    (heeds_cpu (length w.cpus) w.history w.number w.shape.limit p (cpu_at w p) (cpu_at w p).asked poured (cpu_at w p).mode refl (k.cpu p l))

not_offloaded : (m : Mode) → is_deoffloading m ≡ true → is_offloaded m ≡ false
not_offloaded Local e = refl
not_offloaded Offloading e = refl
not_offloaded Offloaded e = absurd cc
not_offloaded Deoffloading e = refl

settled : (n : ℕ) (h : List Mark) (s limit p : ℕ) (c : Cpu) (b : Bool) → nat_le c.left (c.turn / 2) ≡ b → is_deoffloading c.mode ≡ true → IsCpu n h s limit p c → IsCpu n h s limit p (record c { mode = cond b Local c.mode })
settled n h s limit p c true l e i = mode_cpu n h s limit p c Local c.left refl (i.one_list.bypass (not_offloaded c.mode e)) (settling h p c e (leb-true c.left (c.turn / 2) l) i.placed i.offloaded) i
settled n h s limit p c false l e i = i

pub settle_kept : (w : State) (p : ℕ) → IsCore w → is_enabled w (Settle p) ≡ true → IsCore (after w (Settle p))
settle_kept w p k e =
    let e1 = and_parts (has w p) _ e in
    let l : p < length w.cpus = ltb-true p (length w.cpus) e1.0 in
    core_with_cpu w p (settles (cpu_at w p)) k l
    (settled (length w.cpus) w.history w.number w.shape.limit p (cpu_at w p) (nat_le (cpu_at w p).left ((cpu_at w p).turn / 2)) refl e1.1 (k.cpu p l))
