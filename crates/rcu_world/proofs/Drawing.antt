-- A group's turn, one list of events after another
use Rattle.std.proofs.Common.{◌≡◌, ℕ, zero, suc, ◌+◌, ◌-◌, ◌<◌, ◌≤◌, ◌++◌, ◌∷◌, [], Bool, true, false, cond, List, length, map, take, min, refl, ap, sym, ◌∙◌, subst, arith, append_assoc, length-append, inl, inr, ◌⊎◌}
use Rattle.std.proofs.lemmas.List.{get_or-set_same, append-nil, length-map, length-take}
use Rattle.std.specs.Option.{option_to_list}
use Rattle.rcu_world_law.specs.declared.who.Who.TheVariants as who
use Rattle.rcu_world_law.specs.Calls.{Call}
use Rattle.rcu_world_law.specs.LabelledLists.{Labelled, call_of}
use Rattle.rcu_world.specs.Worlds.{IsFit}
use Rattle.rcu_world_law.specs.Places.{flattened}
use Rattle.rcu_world_law.specs.States.{State, empty_cpu, cpu_at, is_member}
use Rattle.rcu_world_law.specs.Steps.{given, given_count, draws}
use Rattle.rcu_world_law.specs.Events.{CoreEvent, is_enabled, happens, run}
use Rattle.rcu_world_law.specs.Events.CoreEvent.{Draw, Join, Give, LookGroup, Need}
use Rattle.rcu_world.specs.GroupTurns.{Draws, Gives, Made, Takes, Then, Upto, Where, WhereRoom, draw_and_join, drawn_by, given_by, look_group_events, most_batches, summed, waiting_upto}
use Rattle.rcu_world.specs.Turns.{Leads, and_then, where_enabled}
use Rattle.rcu_world.proofs.Leading.{leads_append, leads_nothing, leads_then}
use Rattle.rcu_world.proofs.Passing.{leads_after, leads_same}
use Rattle.rcu_world.proofs.Settling.{is_counted}

-- Sums.

summed_append : (f : State → CoreEvent → ℕ) (w : State) (es fs : List CoreEvent) → summed f w (es ++ fs) ≡ summed f w es + summed f (run es w) fs
unfolding summed
summed_append f w [] fs = omega arith
summed_append f w (e ∷ es) fs = let h = summed_append f (happens w e) es fs in omega (arith, h)

-- two lists, the second from where the first led
summed_both : (f : State → CoreEvent → ℕ) (a b : State) (es fs : List CoreEvent) (m n t : ℕ) → b ≡ run es a → m ≡ summed f a es → n ≡ summed f b fs → t ≡ m + n → t ≡ summed f a (es ++ fs)
summed_both f a b es fs m n t s p q e = let h = summed_append f a es fs in let r : summed f b fs ≡ summed f (run es a) fs = ap (λ v. summed f v fs) s in omega (arith, h, r)

-- an event of which the sum knows nothing
summed_none : (f : State → CoreEvent → ℕ) (w : State) (e : CoreEvent) (b : Bool) → f w e ≡ 0 → 0 ≡ summed f w (cond b (e ∷ []) [])
unfolding summed
summed_none f w e true h = let z : f w e ≡ 0 = h in omega (arith, z)
summed_none f w e false h = refl

summed_one : (f : State → CoreEvent → ℕ) (w : State) (e : CoreEvent) (n : ℕ) → is_enabled w e ≡ true → n ≡ f w e → n ≡ summed f w (where_enabled e w)
unfolding summed
summed_one f w e n h m = subst (λ b. n ≡ summed f w (cond b (e ∷ []) [])) (sym h) (omega (arith, m))

-- Lists of events.

-- one part after another
pub then_made : (F G : State → List CoreEvent → Type 0) (a b c : State) (m n k l t u : ℕ) → t ≡ m + n → u ≡ k + l → Made F a b m k → Made G b c n l → Made (Then F G) a c t u
then_made F G a b c m n k l t u p q x y = record {
  events = x.events ++ y.events;
  allowed = (x.events, y.events, refl, x.allowed, subst (λ v. G v y.events) x.leads.state y.allowed);
  leads = leads_append a b c x.events y.events x.leads y.leads;
  drawn = summed_both drawn_by a b x.events y.events m n t x.leads.state x.drawn y.drawn p;
  put = summed_both given_by a b x.events y.events k l u x.leads.state x.put y.put q;
}

pub upto_none : (F : ℕ → State → List CoreEvent → Type 0) (w : State) → Made (Upto F 0) w w 0 0
unfolding Upto summed
upto_none F w = record { events = []; allowed = refl; leads = leads_nothing w w refl; drawn = refl; put = refl }

upto_suc : (F : ℕ → State → List CoreEvent → Type 0) (i : ℕ) (a c : State) (t u : ℕ) → Made (Then (Upto F i) (F i)) a c t u → Made (Upto F (suc i)) a c t u
unfolding Upto
upto_suc F i a c t u x = record { events = x.events; allowed = x.allowed; leads = x.leads; drawn = x.drawn; put = x.put }

pub upto_more : (F : ℕ → State → List CoreEvent → Type 0) (i : ℕ) (a b c : State) (m n k l t u : ℕ) → t ≡ m + n → u ≡ k + l → Made (Upto F i) a b m k → Made (F i) b c n l → Made (Upto F (i + 1)) a c t u
upto_more F i a b c m n k l t u p q x y =
    subst (λ j. Made (Upto F j) a c t u) (let z : suc i ≡ i + 1 = omega arith in z) (upto_suc F i a c t u (then_made (Upto F i) (F i) a b c m n k l t u p q x y))

-- where the test holds, and where it doesn't
chosen : (b : Bool) (A B : Type 0) → b ≡ true → A → Where b A B
chosen b A B h a = subst (λ x. Where x A B) (sym h) a

other : (b : Bool) (A B : Type 0) → b ≡ false → B → Where b A B
other b A B h a = subst (λ x. Where x A B) (sym h) a

-- Draws.

-- k batches were drawn and joined so far
pub record Drawn (p k : ℕ) (old now : State) (took : ℕ) : Type 0 where
  pub events : List CoreEvent
  pub leads : Leads old events now
  pub drawn : took ≡ summed drawn_by old events
  pub put : 0 ≡ summed given_by old events
  pub more : (ys : List CoreEvent) → Draws p (most_batches - k) now ys → Draws p most_batches old (events ++ ys)

pub drawn_none : (p : ℕ) (w : State) → Drawn p 0 w w 0
unfolding summed
drawn_none p w = record {
  events = [];
  leads = leads_nothing w w refl;
  drawn = refl;
  put = refl;
  more = λ ys d. subst (λ n. Draws p n w ys) (let z : most_batches - 0 ≡ most_batches = omega arith in z) d;
}

draws_suc : (p n : ℕ) (w : State) (es : List CoreEvent) → is_enabled w (Draw p) ≡ true → (es ≡ Draw p ∷ []) ⊎ Then (λ v xs. xs ≡ draw_and_join p v) (Draws p n) w es → Draws p (suc n) w es
unfolding Draws
draws_suc p n w es h d = chosen (is_enabled w (Draw p)) _ _ h d

draws_nothing : (p n : ℕ) (w : State) → is_enabled w (Draw p) ≡ false → Draws p n w []
unfolding Draws
draws_nothing p zero w h = refl
draws_nothing p (suc n) w h = other (is_enabled w (Draw p)) _ _ h refl

draws_zero : (p n : ℕ) (w : State) → n ≡ 0 → Draws p n w []
unfolding Draws
draws_zero p zero w e = refl
draws_zero p (suc n) w e = absurd (omega arith)

-- what a Draw draws
pub drawn_length : (w new : State) (p : ℕ) → p < length w.cpus → is_enabled w (Draw p) ≡ true → Leads w (where_enabled (Draw p) w) new → length (cpu_at new p).drawn ≡ drawn_by w (Draw p)
drawn_length w new p l h m = ap (λ v. length (cpu_at v p).drawn) (leads_after w new (Draw p) h m) ∙ ap (λ c. length c.drawn) (get_or-set_same w.cpus p (draws (cpu_at w p)) empty_cpu l)

both_lead : (w mid new : State) (p : ℕ) → Leads w (where_enabled (Draw p) w) mid → Leads mid (where_enabled (Join p) mid) new → Leads w (draw_and_join p w) new
both_lead w mid new p l m = leads_then (where_enabled (Draw p)) (where_enabled (Join p)) w mid new l m

both_drawn : (w mid : State) (p n : ℕ) → is_enabled w (Draw p) ≡ true → Leads w (where_enabled (Draw p) w) mid → n ≡ drawn_by w (Draw p) → n ≡ summed drawn_by w (draw_and_join p w)
unfolding and_then
both_drawn w mid p n h l e = summed_both drawn_by w mid (where_enabled (Draw p) w) (where_enabled (Join p) (run (where_enabled (Draw p) w) w)) n 0 n l.state (summed_one drawn_by w (Draw p) n h e)
    (subst (λ v. 0 ≡ summed drawn_by mid (where_enabled (Join p) v)) l.state (summed_none drawn_by mid (Join p) (is_enabled mid (Join p)) refl)) (omega arith)

both_put : (w mid : State) (p : ℕ) → Leads w (where_enabled (Draw p) w) mid → 0 ≡ summed given_by w (draw_and_join p w)
unfolding and_then
both_put w mid p l = summed_both given_by w mid (where_enabled (Draw p) w) (where_enabled (Join p) (run (where_enabled (Draw p) w) w)) 0 0 0 l.state (summed_none given_by w (Draw p) (is_enabled w (Draw p)) refl)
    (subst (λ v. 0 ≡ summed given_by mid (where_enabled (Join p) v)) l.state (summed_none given_by mid (Join p) (is_enabled mid (Join p)) refl)) (omega arith)

-- a batch that was drawn joins where there is room
pub joins_where : (p : ℕ) (room : Bool) (mid new : State) → room ≡ true → Leads mid (cond room (where_enabled (Join p) mid) []) new → Leads mid (where_enabled (Join p) mid) new
joins_where p room mid new h l = subst (λ x. Leads mid (cond x (where_enabled (Join p) mid) []) new) h l

pub waits_where : (p : ℕ) (room : Bool) (mid new : State) → room ≡ false → Leads mid (cond room (where_enabled (Join p) mid) []) new → Leads mid [] new
waits_where p room mid new h l = subst (λ x. Leads mid (cond x (where_enabled (Join p) mid) []) new) h l

-- a batch is drawn and joins
pub drawn_one : (p k : ℕ) (old now mid new : State) (took n : ℕ) → k < most_batches → p < length now.cpus → Drawn p k old now took → is_enabled now (Draw p) ≡ true
    → Leads now (where_enabled (Draw p) now) mid → Leads mid (where_enabled (Join p) mid) new → n ≡ length (cpu_at mid p).drawn → Drawn p (k + 1) old new (took + n)
drawn_one p k old now mid new took n l r d h a b e =
    let both : Leads now (draw_and_join p now) new = both_lead now mid new p a b in
    let m : n ≡ drawn_by now (Draw p) = e ∙ drawn_length now mid p r h a in
    record {
      events = d.events ++ draw_and_join p now;
      leads = leads_append old now new d.events (draw_and_join p now) d.leads both;
      drawn = summed_both drawn_by old now d.events (draw_and_join p now) took n (took + n) d.leads.state d.drawn (both_drawn now mid p n h a m) refl;
      put = summed_both given_by old now d.events (draw_and_join p now) 0 0 0 d.leads.state d.put (both_put now mid p a) (omega arith);
      more = λ ys s.
          let t : Draws p (suc (most_batches - (k + 1))) now (draw_and_join p now ++ ys) =
          draws_suc p (most_batches - (k + 1)) now (draw_and_join p now ++ ys) h (inr (draw_and_join p now, ys, refl, refl, subst (λ v. Draws p (most_batches - (k + 1)) v ys) both.state s)) in
          let z : suc (most_batches - (k + 1)) ≡ most_batches - k = omega arith in
          subst (Draws p most_batches old) (sym (append_assoc d.events (draw_and_join p now) ys)) (d.more (draw_and_join p now ++ ys) (subst (λ j. Draws p j now (draw_and_join p now ++ ys)) z t));
    }

-- a batch is drawn for which there is no room
pub drawn_waits : (p k : ℕ) (old now mid new : State) (took n : ℕ) → k < most_batches → p < length now.cpus → Drawn p k old now took → is_enabled now (Draw p) ≡ true
    → Leads now (where_enabled (Draw p) now) mid → Leads mid [] new → n ≡ length (cpu_at mid p).drawn → Made (Draws p most_batches) old new (took + n) 0
drawn_waits p k old now mid new took n l r d h a b e =
    let m : n ≡ drawn_by now (Draw p) = e ∙ drawn_length now mid p r h a in
    let one : Leads now (Draw p ∷ []) mid = subst (λ x. Leads now (cond x (Draw p ∷ []) []) mid) h a in
    let same : Leads now (Draw p ∷ []) new = subst (Leads now (Draw p ∷ [])) (sym b.state) one in
    let t : Draws p (suc (most_batches - (k + 1))) now (Draw p ∷ []) = draws_suc p (most_batches - (k + 1)) now (Draw p ∷ []) h (inl refl) in
    let z : suc (most_batches - (k + 1)) ≡ most_batches - k = omega arith in
    record {
      events = d.events ++ Draw p ∷ [];
      allowed = d.more (Draw p ∷ []) (subst (λ j. Draws p j now (Draw p ∷ [])) z t);
      leads = leads_append old now new d.events (Draw p ∷ []) d.leads same;
      drawn = summed_both drawn_by old now d.events (Draw p ∷ []) took n (took + n) d.leads.state d.drawn (subst (λ x. n ≡ summed drawn_by now (cond x (Draw p ∷ []) [])) h (summed_one drawn_by now (Draw p) n h m)) refl;
      put = summed_both given_by old now d.events (Draw p ∷ []) 0 0 0 d.leads.state d.put (summed_none given_by now (Draw p) true refl) (omega arith);
    }

-- nothing more is drawn
drawn_whole : (p k : ℕ) (old now new : State) (took : ℕ) → Draws p (most_batches - k) now [] → Drawn p k old now took → new ≡ now → Made (Draws p most_batches) old new took 0
drawn_whole p k old now new took s d e = record {
  events = d.events;
  allowed = subst (Draws p most_batches old) (append-nil d.events) (d.more [] s);
  leads = subst (Leads old d.events) (sym e) d.leads;
  drawn = d.drawn;
  put = d.put;
}

-- the lane is empty
pub drawn_empty : (p k : ℕ) (old now new : State) (took : ℕ) → Drawn p k old now took → is_enabled now (Draw p) ≡ false → Leads now (where_enabled (Draw p) now) new → Made (Draws p most_batches) old new took 0
drawn_empty p k old now new took d h a = drawn_whole p k old now new took (draws_nothing p (most_batches - k) now h) d (leads_same now new (Draw p) h a)

pub drawn_all : (p k : ℕ) (old now : State) (took : ℕ) → most_batches ≤ k → Drawn p k old now took → Made (Draws p most_batches) old now took 0
drawn_all p k old now took l d = drawn_whole p k old now now took (draws_zero p (most_batches - k) now (omega arith)) d refl

-- The parts of a turn.

-- a batch that waited joins, where there was room
pub joined_made : (p : ℕ) (room : Bool) (old new : State) → Leads old (cond room (where_enabled (Join p) old) []) new → Made (WhereRoom (Join p)) old new 0 0
unfolding summed
joined_made p true old new l = record {
  events = where_enabled (Join p) old;
  allowed = (true, refl);
  leads = l;
  drawn = summed_none drawn_by old (Join p) (is_enabled old (Join p)) refl;
  put = summed_none given_by old (Join p) (is_enabled old (Join p)) refl;
}
joined_made p false old new l = record { events = []; allowed = (false, refl); leads = l; drawn = refl; put = refl }

pub takes_made : (g p : ℕ) (old new : State) (t u : ℕ) → is_member old g p ≡ true → Made (Then (WhereRoom (Join p)) (Draws p most_batches)) old new t u → Made (Takes g p) old new t u
takes_made g p old new t u h x = record { events = x.events; allowed = chosen (is_member old g p) _ _ h x.allowed; leads = x.leads; drawn = x.drawn; put = x.put }

pub takes_none : (g p : ℕ) (w : State) → is_member w g p ≡ false → Made (Takes g p) w w 0 0
unfolding summed
takes_none g p w h = record { events = []; allowed = other (is_member w g p) _ _ h refl; leads = leads_nothing w w refl; drawn = refl; put = refl }

pub gives_none : (g p : ℕ) (w : State) → is_member w g p ≡ false → Made (Gives g p) w w 0 0
unfolding summed
gives_none g p w h = record { events = []; allowed = other (is_member w g p) _ _ h refl; leads = leads_nothing w w refl; drawn = refl; put = refl }

-- what is done is put; nothing is done; there is no room
pub gives_made : (g p n : ℕ) (old new : State) → is_member old g p ≡ true → is_enabled old (Give p) ≡ true → Leads old (where_enabled (Give p) old) new → n ≡ given_by old (Give p) → Made (Gives g p) old new 0 n
gives_made g p n old new h e l m = record {
  events = where_enabled (Give p) old;
  allowed = chosen (is_member old g p) _ _ h (true, refl);
  leads = l;
  drawn = summed_none drawn_by old (Give p) (is_enabled old (Give p)) refl;
  put = summed_one given_by old (Give p) n e m;
}

pub gives_nothing : (g p : ℕ) (old new : State) → is_member old g p ≡ true → is_enabled old (Give p) ≡ false → Leads old (where_enabled (Give p) old) new → Made (Gives g p) old new 0 0
unfolding summed
gives_nothing g p old new h e l = record {
  events = where_enabled (Give p) old;
  allowed = chosen (is_member old g p) _ _ h (true, refl);
  leads = l;
  drawn = summed_none drawn_by old (Give p) (is_enabled old (Give p)) refl;
  put = subst (λ b. 0 ≡ summed given_by old (cond b (Give p ∷ []) [])) (sym e) refl;
}

pub gives_refused : (g p : ℕ) (old new : State) → is_member old g p ≡ true → new ≡ old → Made (Gives g p) old new 0 0
unfolding summed
gives_refused g p old new h e = record { events = []; allowed = chosen (is_member old g p) _ _ h (false, refl); leads = leads_nothing old new e; drawn = refl; put = refl }

-- the look, and what it asks for
pub looked_made : (g : ℕ) (old mid new : State) → Leads old (where_enabled (LookGroup g) old) mid → Leads mid (where_enabled (Need (who.Group g)) mid) new → Made (λ w es. es ≡ look_group_events g w) old new 0 0
unfolding and_then
looked_made g old mid new l m = record {
  events = look_group_events g old;
  allowed = refl;
  leads = leads_then (where_enabled (LookGroup g)) (where_enabled (Need (who.Group g))) old mid new l m;
  drawn = summed_both drawn_by old mid (where_enabled (LookGroup g) old) (where_enabled (Need (who.Group g)) (run (where_enabled (LookGroup g) old) old)) 0 0 0 l.state (summed_none drawn_by old (LookGroup g) (is_enabled old (LookGroup g)) refl)
      (subst (λ v. 0 ≡ summed drawn_by mid (where_enabled (Need (who.Group g)) v)) l.state (summed_none drawn_by mid (Need (who.Group g)) (is_enabled mid (Need (who.Group g))) refl)) (omega arith);
  put = summed_both given_by old mid (where_enabled (LookGroup g) old) (where_enabled (Need (who.Group g)) (run (where_enabled (LookGroup g) old) old)) 0 0 0 l.state (summed_none given_by old (LookGroup g) (is_enabled old (LookGroup g)) refl)
      (subst (λ v. 0 ≡ summed given_by mid (where_enabled (Need (who.Group g)) v)) l.state (summed_none given_by mid (Need (who.Group g)) (is_enabled mid (Need (who.Group g))) refl)) (omega arith);
}

-- Bounds.

module _ (held : List Call) (done_lane : List (List Call)) (out : List Call) (joined : List Labelled) (drawn : List Call) (lane : List (List Call)) (rest fresh : List Call) where
  places : ℕ
  places = length ((held ++ (flattened done_lane ++ (out ++ (map call_of joined ++ (drawn ++ (flattened lane ++ rest)))))) ++ fresh)

  within : length out + (length joined + length drawn) ≤ places
  unfolding places
  within = omega (
    arith,
    length-append (held ++ (flattened done_lane ++ (out ++ (map call_of joined ++ (drawn ++ (flattened lane ++ rest)))))) fresh,
    length-append held (flattened done_lane ++ (out ++ (map call_of joined ++ (drawn ++ (flattened lane ++ rest))))),
    length-append (flattened done_lane) (out ++ (map call_of joined ++ (drawn ++ (flattened lane ++ rest)))),
    length-append out (map call_of joined ++ (drawn ++ (flattened lane ++ rest))),
    length-append (map call_of joined) (drawn ++ (flattened lane ++ rest)),
    length-append drawn (flattened lane ++ rest),
    length-map joined call_of,
  )

few : (w : State) (p : ℕ) → IsFit w → p < length w.cpus → length (cpu_at w p).out + (length (cpu_at w p).joined + length (cpu_at w p).drawn) ≤ 1000000
unfolding places
few w p k l =
    let c = cpu_at w p in
    let i = is_counted w p k l in
    let h = within c.held c.done_lane c.out c.joined c.drawn c.lane (c.bypass ++ map call_of c.own) (option_to_list c.fresh) in
    omega (arith, i.count, i.few, h)

pub few_drawn : (w : State) (p : ℕ) → IsFit w → p < length w.cpus → length (cpu_at w p).drawn + length (cpu_at w p).out ≤ 1000000
few_drawn w p k l = let h = few w p k l in omega (arith, h)

pub few_given : (w : State) (p : ℕ) → IsFit w → p < length w.cpus → length (given w.shape.blimit (cpu_at w p)) ≤ 1000000
few_given w p k l =
    let c = cpu_at w p in
    let h = few w p k l in
    let n = given_count w.shape.blimit c in
    let m : length (map call_of (take n c.joined)) ≡ min n (length c.joined) = length-map (take n c.joined) call_of ∙ length-take n c.joined in
    omega (arith, h, m, length-append c.out (map call_of (take n c.joined)))

-- What waits.

waits_suc : (g n x z : ℕ) (w : State) (b : Bool) → is_member w g n ≡ b → x ≡ waiting_upto g n w → z ≡ x + cond b (length (cpu_at w n).drawn + length (cpu_at w n).out) 0 → z ≡ waiting_upto g (suc n) w
unfolding waiting_upto
waits_suc g n x z w b h e s = s ∙ ap (λ v. v + cond b (length (cpu_at w n).drawn + length (cpu_at w n).out) 0) e ∙ ap (λ v. waiting_upto g n w + cond v (length (cpu_at w n).drawn + length (cpu_at w n).out) 0) (sym h)

pub waits_more : (g n x d o : ℕ) (w : State) → is_member w g n ≡ true → x ≡ waiting_upto g n w → d ≡ length (cpu_at w n).drawn → o ≡ length (cpu_at w n).out → x + (d + o) ≡ waiting_upto g (n + 1) w
waits_more g n x d o w h e s t = subst (λ j. x + (d + o) ≡ waiting_upto g j w) (let z : suc n ≡ n + 1 = omega arith in z)
    (waits_suc g n x (x + (d + o)) w true h e (omega (arith, s, t)))

pub waits_other : (g n x : ℕ) (w : State) → is_member w g n ≡ false → x ≡ waiting_upto g n w → x ≡ waiting_upto g (n + 1) w
waits_other g n x w h e = subst (λ j. x ≡ waiting_upto g j w) (let z : suc n ≡ n + 1 = omega arith in z) (waits_suc g n x x w false h e (omega arith))

pub waits_none : (g : ℕ) (w : State) → 0 ≡ waiting_upto g 0 w
unfolding waiting_upto
waits_none g w = refl
