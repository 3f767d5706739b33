-- What the last loads say of all records.
use Rattle.std.proofs.Common.{◌≡◌, ℕ, zero, suc, ◌+◌, ◌*◌, ◌/◌, ◌%◌, ◌<◌, ◌≤◌, cond, ltb, Option, Some, None, List, [], ◌∷◌, ◌++◌, inl, inr, map, length, take, drop, get_or, sym, ap, ◌∙◌, refl, subst, arith}
use Rattle.std.specs.List.{All}
use Rattle.std.proofs.lemmas.Bool.Decides.{nat_tests}
use Rattle.std.proofs.lemmas.List.{length-drop, length-map}
use Rattle.rcu_board.specs.Laws.{OddEquals}
use Rattle.rcu_board.specs.Plays.{PassedBy}
use Rattle.rcu_board.specs.Quiets.{Passed}
use Rattle.rcu_board.specs.Seats.{accepted_of, first_accepted, first_fresh, first_word, own_word}
use Rattle.rcu_board.specs.Views.{Every, accepted_count, claimed, cpus, fresh_count, one_if_claim, seen_at, total}
use Rattle.rcu_board.specs.Words.{accepts_word, away_of, period_of, turns_word, words_of}
use Rattle.rcu_board.specs.declared.view.Accepted.{Accepted as Entry}
use Rattle.rcu_board.specs.declared.view.Claim.{Claim}
use Rattle.rcu_board.specs.declared.view.Own.{Own}
use Rattle.rcu_board.specs.declared.view.View.{View}
use Rattle.rcu_board.proofs.Asks.{turns_not}
use Rattle.rcu_board.proofs.Views.{total-append}
use Rattle.rcu_part_close.specs.Ends.{AreOnceBelow, IsEnd, IsSoundEnd}
use Rattle.rcu_jobs.specs.declared.callback.Callback.{Callback}
use Rattle.rcu_jobs.specs.declared.callback.Record.{Record}
use Rattle.rcu_numbers.specs.Numbers.{snap_of}
use Rattle.rcu_part_order.specs.Order.{between, times}
use Rattle.rcu_part_order.specs.Places.{Accepted, numbered}
use Rattle.rcu_part_order.specs.Callbacks.{numbered_callback}
use Rattle.rcu_part_order.specs.Records.{AreSeenBy, numbered_record, numbered_records, by_number}
use Rattle.rcu_part_close.specs.Closing.{Closes, CpuEnd, Ends, EndsAs, HaveEnded, IsGraced, IsGracedBy, HasPassed, calls_left, processors_of, seats_of}
use Rattle.rcu_part_close.specs.Gathered.{gather}
use Rattle.rcu_part_steps.specs.Places.{accepted_entry, accepted_list, claim_of}
use Rattle.rcu_part_close.specs.Parts.{HandClaims, HandPart, IsAtRest, IsSoundPart, hand_kept, hand_ran, hand_views, views_of}
use Rattle.rcu_part_close.proofs.Claims.{cpu_at, no_claims, row_at}
use Rattle.rcu_part_close.proofs.Gathers.{gather_claims, gather_each, gather_seen, gather_sights}
use Rattle.std.proofs.lemmas.List.Elements.{All-cons, All-head, All-map, All-nil, All-tail, All-weaker}
use Rattle.rcu_lemmas.proofs.All.{All-append_left, All-append_right, All-both, All-unmap}
use Rattle.rcu_part_close.proofs.Every.{every_all, every_both}

-- ---- the grace period

-- what the last report word w of processor k says of its lists: how it passed each grace period, and that it knows the word where it is here
abbrev PassesTo : ℕ → ℕ → Own → Type 0
PassesTo k w o = o.cpu ≡ k → (s : ℕ) → s % 4 ≡ 1 → s ≤ period_of w → PassedBy s o

abbrev Knows : ℕ → ℕ → Own → Type 0
Knows k w o = o.cpu ≡ k → away_of o.word ≡ 0 → o.word ≡ w

-- the grace period s is among those that the processor whose view it is passed
abbrev HasCounted : ℕ → View → Type 0
HasCounted s v = (s ≤ period_of (own_word v)) × HasPassed s v

-- one that is not away still passed it before
by_then : (s : ℕ) (o : Own) → away_of o.word ≡ 0 → PassedBy s o → Passed s o.quiets
by_then s o here (inl p) = p
by_then s o here (inr q) = absurd (omega (arith, here, q.0))

own_passed : (p s w : ℕ) (os : List Own) → cpus os ≡ p ∷ [] → away_of (first_word os) ≡ 0 → Every (λ (o : Own). PassesTo p w o × Knows p w o) os → s % 4 ≡ 1 → s ≤ period_of w
    → (s ≤ period_of (first_word os)) × Every (λ (o : Own). Passed s o.quiets) os
unfolding Every
own_passed p s w [] e here h busy le = absurd (omega (arith, ap length e))
own_passed p s w (o ∷ []) e here h busy le =
    let cpu : o.cpu ≡ p = ap (λ (l : List ℕ). get_or l 0 0) e in
    let same : o.word ≡ w = h.0.1 cpu here in
    ((let low : s ≤ w / 2 = le in omega (arith, same, low)), (by_then s o here (h.0.0 cpu s busy le), tt))
own_passed p s w (o ∷ q ∷ os) e here h busy le = let two : length (cpus (o ∷ q ∷ os)) ≡ 1 = ap length e in absurd (omega arith)

-- the first grace period after the stamp has ended by the sight, and the processor has passed it
graced : {R : Type 0} → (x : ℕ) (r : Record R) (w : View) → snap_of r.stamp ≤ r.ready → r.ready ≤ x → ((s : ℕ) → s % 4 ≡ 1 → s < x → HasCounted s w) → IsGracedBy r w
graced x r w ripe low pass =
    let j : ℕ = (r.stamp + 3) / 4 in
    let counted = pass (4 * j + 1) (omega arith) (omega (arith, ripe, low)) in
    (j, (let c = counted.0 in omega arith), omega arith, omega (arith, ripe), counted.1)

-- ---- the accepted count

none_fresh : (f : Option ℕ) → f ≡ None → fresh_count f ≡ 0
none_fresh f e = ap fresh_count e

own_counted : (p a : ℕ) (os : List Own) → cpus os ≡ p ∷ [] → first_fresh os ≡ None → Every (λ o. o.cpu ≡ p → a ≡ accepted_count o) os → a ≡ length (first_accepted os)
unfolding Every
own_counted p a [] e none h = absurd (omega (arith, ap length e))
own_counted p a (o ∷ os) e none h =
    let c : o.cpu ≡ p = ap (λ (l : List ℕ). get_or l 0 0) e in
    let f = none_fresh o.fresh none in
    let n = h.0 c in omega arith

-- ---- lists

length_taken : {A : Type 0} (n : ℕ) (xs : List A) → n ≤ length xs → length (take n xs) ≡ n
length_taken zero xs h = refl
length_taken (suc n) [] h = absurd (omega arith)
length_taken (suc n) (x ∷ xs) h = ap suc (length_taken n xs (omega arith))

numbered_length : (k : ℕ) (xs : List Accepted) → length (numbered k xs) ≡ length xs
numbered_length k [] = refl
numbered_length k (x ∷ xs) = ap suc (numbered_length (k + 1) xs)

settled_between : (m j : ℕ) → cond (ltb j m) 1 0 ≡ between 0 m j
settled_between m j = grind (arith, nat_tests)

-- claims that are seen by x
seen_records : {R : Type 0} → (x cpu : ℕ) (v : View) (ran : List (Record R)) → v.claims ≡ map (claim_of cpu) ran → Every (λ (c : Claim). c.sight ≤ x) v.claims → AreSeenBy x ran
seen_records x cpu v ran e h = All-unmap (λ (c : Claim). c.sight ≤ x) (claim_of cpu) ran (subst (All (λ (c : Claim). c.sight ≤ x)) e (every_all (λ (c : Claim). c.sight ≤ x) v.claims h))

module _ {R : Type 0} where
  ran_length : (accepted : List Accepted) (m : ℕ) (ran : List (Record R)) → IsEnd accepted m ran → m ≡ length ran
  ran_length accepted m ran e =
      let a = ap length e.ran_is ∙ length_taken m (numbered 0 accepted) (let n = numbered_length 0 accepted in let w = e.within in omega arith) in
      let b = length-map ran (numbered_record {R = R}) in omega arith

module _ {J R : Type 0} where
  all_seats : (P : View → Type 0) (es : List (CpuEnd J R)) → All P (seats_of es) → All (λ (e : CpuEnd J R). All P (views_of e.part)) es
  all_seats P [] h = All-nil (λ (e : CpuEnd J R). All P (views_of e.part))
  all_seats P (e ∷ es) h = All-cons (λ (e : CpuEnd J R). All P (views_of e.part)) e es (All-append_left P (views_of e.part) (seats_of es) h) (all_seats P es (All-append_right P (views_of e.part) (seats_of es) h))

  seen_hand : (x cpu : ℕ) (P : View → Type 0) (hand : Option (HandPart J R)) → ((v : View) → P v → Every (λ (c : Claim). c.sight ≤ x) v.claims) → HandClaims cpu hand → All P (hand_views hand) → AreSeenBy x (hand_ran hand)
  seen_hand x cpu P None f e h = All-nil (λ (r : Record R). r.ready ≤ x)
  seen_hand x cpu P (Some y) f e h = seen_records x cpu y.view y.ran e (f y.view (All-head P y.view [] h))

module _ {J R : Type 0} where
  -- as many as were accepted ran or come back
  pub as_many_ended : (views processors : List View) (e : CpuEnd J R) → EndsAs views processors e → length e.ran + length e.back ≡ length (accepted_list e.part.view)
  as_many_ended views processors e h =
      let accepted = accepted_list e.part.view in
      let calls = calls_left e in
      omega (arith, h.end.within, length-drop (length e.ran) (numbered 0 accepted), numbered_length 0 accepted, ap length h.jobs, length-map calls (λ (c : Callback J). c.job), ap length h.left, length-map calls (numbered_callback {J = J}))

module _ {J R : Type 0} (key_of : J → ℕ) (gives : ℕ → R → Type 0) (n x : ℕ) (v : View) (others : List View) (es : List (CpuEnd J R)) (h : HaveEnded key_of gives n x v others es) where
  abbrev Whole : View
  Whole = gather v (others ++ seats_of es)

  abbrev Views : List View
  Views = v ∷ (others ++ seats_of es)

  abbrev Rests : CpuEnd J R → Type 0
  Rests e = IsAtRest e.part

  -- what is known of each view
  abbrev Stands : View → Type 0
  Stands w = Every (λ (o : Own). Every (λ (a : Entry). a.stamp ≤ x) o.accepted) w.own × Every (λ (c : Claim). c.sight ≤ x) w.claims

  stands : All (λ (e : CpuEnd J R). All Stands (views_of e.part)) es
  stands = all_seats Stands es (All-append_right Stands (v ∷ others) (seats_of es)
      (gather_each (λ (o : Own). Every (λ (a : Entry). a.stamp ≤ x) o.accepted) (λ (c : Claim). c.sight ≤ x) v (others ++ seats_of es) h.settled.board.stamps h.settled.board.sights))

  -- each processor passed each grace period that has ended
  passes : All (λ (w : View). (s : ℕ) → s % 4 ≡ 1 → s < x → HasCounted s w) (processors_of es)
  passes = All-map (λ (w : View). (s : ℕ) → s % 4 ≡ 1 → s < x → HasCounted s w) (λ (e : CpuEnd J R). e.part.view) es
      (λ k d lt. let e = get_or es k d in
      let near : k < n = omega (arith, lt, h.all) in
      let cpu : e.part.cpu ≡ k = (let z = cpu_at 0 k es d lt h.row in omega arith) in
      let word = (h.settled.reports k near).0 in
      let law = (h.settled.reports k near).1 in
      let rest = h.at_rest k d lt in
      let P : Own → Type 0 = λ o. PassesTo k word o × Knows k word o in
      let S : View → Type 0 = λ w. Every P w.own × Every (λ (c : Claim). c.sight ≤ x) w.claims in
      let both = every_both (PassesTo k word) (Knows k word) Whole.own law.passed law.here in
      let all = all_seats S es (All-append_right S (v ∷ others) (seats_of es) (gather_each P (λ (c : Claim). c.sight ≤ x) v (others ++ seats_of es) both h.settled.board.sights)) in
      let mine = All-head S e.part.view (hand_views e.part.hand) (all k d lt) in
      λ s busy less. own_passed k s word e.part.view.own (rest.own_cpu ∙ ap (λ (c : ℕ). c ∷ []) cpu) rest.here mine.0 busy (law.ended s busy less))

  -- how often all views claimed number j of the k-th processor
  claims_at : (k j : ℕ) (d : CpuEnd J R) → k < length es → total (claimed k j) Views ≡ times j (numbered_records (get_or es k d).part.own) + times j (numbered_records (hand_ran (get_or es k d).part.hand))
  claims_at k j d lt =
      let a = total-append (claimed k j) (v ∷ others) (seats_of es) in
      let b = no_claims k j (v ∷ others) h.nothing in
      let c = row_at k j 0 k es d lt (omega arith) h.row h.at_rest in omega arith

  -- the turn word of the k-th processor says how many ran
  abbrev ran_at : (k : ℕ) → k < n → ℕ
  ran_at k near = ((h.settled.turns k near).0 + 1) / 2

  all_claimed_at : (k j : ℕ) (near : k < n) → total (claimed k j) Views ≡ between 0 (ran_at k near) j
  all_claimed_at k j near = sym (gather_claims (one_if_claim k j) v (others ++ seats_of es)) ∙ ((h.settled.turns k near).2.claims j ∙ settled_between (ran_at k near) j)

  once_at : (k : ℕ) (near : k < n) (d : CpuEnd J R) → k < length es → AreOnceBelow (ran_at k near) (get_or es k d).part.own (hand_ran (get_or es k d).part.hand)
  once_at k near d lt = λ j. sym (claims_at k j d lt) ∙ all_claimed_at k j near

  end_at : (k : ℕ) (near : k < n) (d : CpuEnd J R) → k < length es → IsEnd (accepted_list (get_or es k d).part.view) (ran_at k near) (get_or es k d).ran
  end_at k near d lt = let rest = h.at_rest k d lt in (h.ended k d lt).ends.ends (accepted_list (get_or es k d).part.view) (ran_at k near) rest.places rest.ripe rest.hand_ripe (once_at k near d lt)

  ends_at : (k : ℕ) (d : CpuEnd J R) → k < length es → EndsAs Views (processors_of es) (get_or es k d)
  ends_at k d lt =
      let e = get_or es k d in
      let near : k < n = omega (arith, lt, h.all) in
      let cpu : e.part.cpu ≡ k = (let z = cpu_at 0 k es d lt h.row in omega arith) in
      let rest = h.at_rest k d lt in
      let seats = stands k d lt in
      let own = All-head Stands e.part.view (hand_views e.part.hand) seats in
      let turn = h.settled.turns k near in
      let count = h.settled.counts k near in
      let m = ran_at k near in
      let number = x in
      let once = once_at k near d lt in
      let ended = h.ended k d lt in
      let done = ended.ends in
      let end = end_at k near d lt in
      let long : m ≡ length e.ran = ran_length (accepted_list e.part.view) m e.ran end in
      let seen : AreSeenBy number e.ran = done.seen number (seen_records number e.part.cpu e.part.view e.part.own rest.claims own.1)
      (seen_hand number e.part.cpu Stands e.part.hand (λ w s. s.1) rest.hand_claims (All-tail Stands e.part.view (hand_views e.part.hand) seats)) in
      let sights = gather_sights (words_of n) (turns_word k) (omega arith) (turns_not k) v (others ++ seats_of es) h.long in
      let Counted : View → Type 0 = λ w. Every (λ (o : Own). o.cpu ≡ k → count.0 / 2 ≡ accepted_count o) w.own × Every (λ (c : Claim). c.sight ≤ number) w.claims in
      let counted = All-append_right Counted (v ∷ others) (seats_of es)
      (gather_each (λ (o : Own). o.cpu ≡ k → count.0 / 2 ≡ accepted_count o) (λ (c : Claim). c.sight ≤ number) v (others ++ seats_of es) count.1.counts h.settled.board.sights) in
      let accepted : count.0 / 2 ≡ length (accepted_of e.part.view) = own_counted k (count.0 / 2) e.part.view.own (rest.own_cpu ∙ ap (λ (c : ℕ). c ∷ []) cpu) rest.stamped
      (All-head Counted e.part.view (hand_views e.part.hand) (all_seats Counted es counted k d lt)).0 in
      record {
        end = subst (λ (i : ℕ). IsEnd (accepted_list e.part.view) i e.ran) long end;
        records = done.records;
        kept = ended.kept;
        whole = λ whole. ended.kept ∙ (ap (λ (l : List (Record R)). by_number l (hand_kept e.part.hand)) whole.own ∙ (ap (by_number e.part.own) whole.hand ∙ sym ended.ran));
        jobs = done.jobs;
        left = done.left (accepted_list e.part.view) m rest.places once ∙ ap (λ (i : ℕ). drop i (numbered 0 (accepted_list e.part.view))) long;
        claims = λ j. ap (λ (p : ℕ). total (claimed p j) Views) cpu ∙ (all_claimed_at k j near ∙ ap (λ (i : ℕ). between 0 i j) long);
        graced = All-both (λ (r : Record R). snap_of r.stamp ≤ r.ready) (λ (r : Record R). r.ready ≤ number) (IsGraced (processors_of es)) e.ran
            (λ r ripe low. All-weaker (λ (w : View). (s : ℕ) → s % 4 ≡ 1 → s < x → HasCounted s w) (IsGracedBy r)
            (λ w pass. graced x r w ripe low pass) (processors_of es) passes) end.ripe seen;
        turns = subst (λ (p : ℕ). All (λ (w : View). seen_at w (turns_word p) / 2 ≤ length e.ran) Views) (sym cpu)
            (All-weaker (λ (w : View). seen_at w (turns_word k) ≤ seen_at Whole (turns_word k)) (λ (w : View). seen_at w (turns_word k) / 2 ≤ length e.ran) (λ w low. let t = turn.1 in omega (arith, low, t, long)) Views sights);
        shut = subst (λ (p : ℕ). All (λ (w : View). seen_at w (accepts_word p) % 2 ≡ 1 → seen_at w (accepts_word p) / 2 ≡ length (accepted_list e.part.view)) Views) (sym cpu)
            (All-weaker (λ (w : View). OddEquals k count.0 w.seen) (λ (w : View). seen_at w (accepts_word k) % 2 ≡ 1 → seen_at w (accepts_word k) / 2 ≡ length (accepted_list e.part.view))
            (λ w equal odd. ap (λ (a : ℕ). a / 2) (equal odd) ∙ (accepted ∙ sym (length-map (accepted_of e.part.view) accepted_entry))) Views
            (gather_seen (OddEquals k count.0) v (others ++ seats_of es) count.1.final count.1.merged));
      }

  sound_at : (k : ℕ) (d : CpuEnd J R) → k < length es → IsSoundPart key_of gives (get_or es k d).part
      → IsSoundEnd key_of gives (accepted_list (get_or es k d).part.view) (length (get_or es k d).ran) (get_or es k d).ran (get_or es k d).back
  sound_at k d lt sound =
      let e = get_or es k d in
      let near : k < n = omega (arith, lt, h.all) in
      let end = (h.ended k d lt).ends.sound (accepted_list e.part.view) (ran_at k near) (h.at_rest k d lt).places (once_at k near d lt) sound in
      subst (λ (i : ℕ). IsSoundEnd key_of gives (accepted_list e.part.view) i e.ran e.back) (ran_length (accepted_list e.part.view) (ran_at k near) e.ran (end_at k near d lt)) end

  pub ends : Ends v others es
  ends k d lt = ends_at k d lt

  pub closes : All (λ (e : CpuEnd J R). IsSoundPart key_of gives e.part) es → Closes key_of gives v others es
  closes sound k d lt = record { ends = ends_at k d lt; sound = sound_at k d lt (sound k d lt) }
