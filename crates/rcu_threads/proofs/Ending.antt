-- What a run leaves to `close`, and what `close` finds: docs/specification/promises.md, "Headline on the running parts", close.
use Rattle.std.proofs.Common.{◌≡◌, ℕ, zero, suc, ◌+◌, ◌*◌, ◌/◌, ◌<◌, ◌≤◌, List, [], ◌∷◌, ◌++◌, map, take, drop, length, get_or, ap, sym, ◌∙◌, subst, refl, arith}
use Rattle.std.specs.Prelude.{All, Result}
use Rattle.std.specs.List.{AllZip}
use Rattle.std.proofs.lemmas.List.{length-map, take_all}
use Rattle.std.proofs.lemmas.Simd.{map-map}
use Rattle.rcu_board.specs.Seats.{accepted_of}
use Rattle.rcu_board.specs.Views.{seen_at}
use Rattle.rcu_board.specs.Words.{turns_word}
use Rattle.rcu_board.specs.declared.board.Board.{Board}
use Rattle.rcu_board.specs.declared.view.View.{View}
use Rattle.rcu_part_control.specs.Parts.{control_view}
use Rattle.rcu_part_close.proofs.Closings.{as_many_ended}
use Rattle.rcu_part_close.specs.Closing.{ClosesAs, CpuEnd, processors_of, seats_of}
use Rattle.rcu_part_order.specs.Places.{Accepted, Numbered, numbered, keys_of}
use Rattle.rcu_part_order.specs.Records.{numbered_record}
use Rattle.rcu_jobs.specs.declared.answers.Refused.{Refused}
use Rattle.rcu_jobs.specs.declared.answers.Ticket.{Ticket}
use Rattle.rcu_jobs.specs.declared.callback.Record.{Record}
use Rattle.rcu_part_steps.specs.Places.{accepted_entry, accepted_list}
use Rattle.rcu_part_close.specs.Parts.{CpuPart}
use Rattle.rcu_jobs.specs.declared.answers.Closed.{Closed}
use Rattle.rcu_parts.proofs.KeptWhole.{answers_all, whole_stays}
use Rattle.rcu_parts.specs.AtClose.{ClosesWith, KeepWhole, cpu_part, cpu_parts, hand_for, hands_after, other_views}
use Rattle.rcu_part_group.specs.Groups.{SameGroup}
use Rattle.rcu_part_hand.specs.Hands.{IsSoundHand}
use Rattle.rcu_parts.specs.OneOpen.{AreOfOneOpen, AreProcessorsFrom, AreSoundParts, Parts, groups_in, hands_in, parts_board, processors_in}
use Rattle.rcu_part_processor.specs.Processors.{IsSound, SameProcessor, view_of}
use Rattle.rcu_parts.specs.SameParts.{AreSameParts}
use Rattle.rcu_part_hand.specs.declared.hand.Hand.{Hand}
use Rattle.rcu_part_processor.specs.declared.processor.Processor.{Processor}
use Rattle.rcu_parts.specs.Drained.{HasNoneBack}
use Rattle.rcu_part_threads.specs.Calls.{keys_in}
use Rattle.rcu_part_threads.specs.Dealing.{AreInOrder, HaveAllRun, tickets_in}
use Rattle.rcu_threads.specs.Ends.{AreUnused, keys_ran}
use Rattle.rcu_part_threads.specs.Parts.{GroupStays, HandStays}
use Rattle.rcu_part_threads.specs.Runs.{HasRun}
use Rattle.rcu_threads.specs.Runs.{HaveRun}
use Rattle.rcu_part_threads.proofs.Zips.{zip_all}
use Rattle.std.proofs.lemmas.List.Elements.{All-cons, All-head, All-map, All-nil, All-tail}
use Rattle.rcu_lemmas.proofs.All.{All-unmap}
use Rattle.rcu_lemmas.proofs.Zips.{zip_weaker}

no_longer : {X : Type 0} (l : List X) → length l ≤ 0 → l ≡ []
no_longer [] short = refl
no_longer (x ∷ xs) short = absurd (omega (arith, short))

length-numbered : (k : ℕ) (xs : List Accepted) → length (numbered k xs) ≡ length xs
length-numbered k [] = refl
length-numbered k (x ∷ xs) = ap suc (length-numbered (k + 1) xs)

keys_of_numbered : (k : ℕ) (xs : List Accepted) → map (λ (n : Numbered). n.key) (numbered k xs) ≡ keys_of xs
keys_of_numbered k [] = refl
keys_of_numbered k (x ∷ xs) = ap (λ l. x.key ∷ l) (keys_of_numbered (k + 1) xs)

module _ {J R : Type 0} (key_of : J → ℕ) (gives : ℕ → R → Type 0) where
  -- the parts are the same parts
  pub all_same : (old new : Parts J R) → HaveRun key_of gives old new → AreSameParts old new
  all_same old new h = record {
    control = h.control;
    driver = h.driver;
    processors = zip_weaker (HasRun key_of gives (control_view new.control)) (λ p q. SameProcessor p.state q.state) (λ p q r. r.same) (processors_in old) (processors_in new) h.processors;
    groups = zip_weaker GroupStays (λ g h. SameGroup g.state h.state) (λ g h s. s.same) (groups_in old) (groups_in new) h.groups;
    hands = zip_weaker (HandStays key_of gives) _ (λ h i s. s.same) (hands_in old) (hands_in new) h.hands;
  }

  -- and know of their jobs what they should
  pub all_sound : (old new : Parts J R) → HaveRun key_of gives old new → AreSoundParts key_of gives old → AreSoundParts key_of gives new
  all_sound old new h s = record {
    processors = zip_all (λ p. IsSound key_of gives p.state) (HasRun key_of gives (control_view new.control)) (λ p. IsSound key_of gives p.state) (λ p q r. r.sound) (processors_in old) (processors_in new) h.processors s.processors;
    hands = zip_all (λ i. IsSoundHand key_of gives i.state) (HandStays key_of gives) (λ i. IsSoundHand key_of gives i.state) (λ h i r. r.sound) (hands_in old) (hands_in new) h.hands s.hands;
  }

  -- by what this view has seen, all of the processor's callbacks have run
  abbrev AllRan : View → Processor J R → Type 0
  AllRan v p = 2 * p.state.accepted ≤ seen_at v (turns_word p.state.cpu)

  all_ran : (v : View) (p q : Processor J R) → HasRun key_of gives v p q → p.state.accepted ≡ 0 → AllRan v q
  all_ran v p q h none = subst (λ c. 2 * q.state.accepted ≤ seen_at v (turns_word c)) (sym h.same.cpu) (h.over none)

  -- of a processor all of whose callbacks have run no job comes back
  none_back : (v : View) (views processors : List View) (p : Processor J R) (c : CpuPart J R) (e : CpuEnd J R) → c.cpu ≡ p.state.cpu → c.view ≡ view_of p.state → e.part ≡ c → ClosesAs key_of gives (v ∷ views) processors e → AllRan v p → e.back ≡ []
  none_back v views processors p c e cpu at part h ran =
      let turns = All-head (λ w. seen_at w (turns_word e.part.cpu) / 2 ≤ length e.ran) v views h.ends.turns in
      let same : e.part.cpu ≡ p.state.cpu = ap (λ (x : CpuPart J R). x.cpu) part ∙ cpu in
      let seen : seen_at v (turns_word p.state.cpu) / 2 ≤ length e.ran = subst (λ k. seen_at v (turns_word k) / 2 ≤ length e.ran) same turns in
      let view : e.part.view ≡ view_of p.state = ap (λ (x : CpuPart J R). x.view) part ∙ at in
      let many : length (accepted_list e.part.view) ≡ p.state.accepted = ap (λ (w : View). length (accepted_list w)) view ∙ (length-map (accepted_of (view_of p.state)) accepted_entry ∙ p.state.lawful.counted) in
      no_longer e.back (omega (arith, seen, ran, many, as_many_ended (v ∷ views) processors e h.ends))

  none_back_each : (v : View) (views processors : List View) (es : List (CpuEnd J R)) (ps : List (Processor J R)) (hs : List (Hand J R)) → map (λ e. e.part) es ≡ cpu_parts ps hs → All (ClosesAs key_of gives (v ∷ views) processors) es → All (AllRan v) ps → All (λ e. e.back ≡ []) es
  none_back_each v views processors [] ps hs same h ran = All-nil (λ (e : CpuEnd J R). e.back ≡ [])
  none_back_each v views processors (e ∷ es) [] hs same h ran = absurd (let long = ap (λ (l : List (CpuPart J R)). length l) same in omega (arith, long))
  none_back_each v views processors (e ∷ es) (p ∷ ps) hs same h ran =
      let first = ap (λ (l : List (CpuPart J R)). get_or l 0 e.part) same in
      let rest = ap (λ (l : List (CpuPart J R)). drop 1 l) same in
      let Closed = ClosesAs key_of gives (v ∷ views) processors in
      All-cons (λ (x : CpuEnd J R). x.back ≡ []) e es
      (none_back v views processors p (cpu_part p (hand_for p hs)) e refl refl first (All-head Closed e es h) (All-head (AllRan v) p ps ran))
      (none_back_each v views processors es ps (hands_after p hs) rest (All-tail Closed e es h) (All-tail (AllRan v) p ps ran))

  -- where nothing had been accepted before, no job comes back
  pub none_handed_back : (old new : Parts J R) (closed : Closed J R) → HaveRun key_of gives old new → AreUnused old → ClosesWith key_of gives new closed → HasNoneBack closed
  none_handed_back old new closed h unused c =
      let v = control_view new.control in
      let ran = zip_all (λ (p : Processor J R). p.state.accepted ≡ 0) (HasRun key_of gives v) (AllRan v) (all_ran v) (processors_in old) (processors_in new) h.processors unused in
      let views = other_views new ++ seats_of c.ends in
      let each = none_back_each v views (processors_of c.ends) c.ends (processors_in new) (hands_in new) c.parts_are c.closes ran in
      let None = λ (l : List J). l ≡ [] in
      let lists : All None (map (λ (e : CpuEnd J R). e.back) c.ends) = All-map None (λ (e : CpuEnd J R). e.back) c.ends each in
      All-unmap None (λ b. b.items) closed.back.items (subst (All None) (sym c.back) lists)

  -- of a processor all of whose callbacks have run, what ran is what it accepted
  ran_keys : (v : View) (views processors : List View) (p : Processor J R) (c : CpuPart J R) (e : CpuEnd J R) → c.cpu ≡ p.state.cpu → c.view ≡ view_of p.state → e.part ≡ c → ClosesAs key_of gives (v ∷ views) processors e → AllRan v p → map (λ (r : Record R). r.key) e.ran ≡ keys_in p
  ran_keys v views processors p c e cpu at part h ran =
      let view : e.part.view ≡ view_of p.state = ap (λ (x : CpuPart J R). x.view) part ∙ at in
      let accepted = accepted_list e.part.view in
      let none = none_back v views processors p c e cpu at part h ran in
      let back = ap (λ (l : List J). length l) none in
      let numbers = length-numbered 0 accepted in
      let all : take (length e.ran) (numbered 0 accepted) ≡ numbered 0 accepted = take_all (length e.ran) (numbered 0 accepted) (omega (arith, as_many_ended (v ∷ views) processors e h.ends, back, numbers)) in
      sym (map-map (λ (n : Numbered). n.key) numbered_record e.ran) ∙ (ap (map (λ (n : Numbered). n.key)) (h.ends.end.ran_is ∙ all) ∙ (keys_of_numbered 0 accepted ∙ ap (λ (w : View). keys_of (accepted_list w)) view))

  ran_keys_each : (v : View) (views processors : List View) (es : List (CpuEnd J R)) (ps : List (Processor J R)) (hs : List (Hand J R)) → map (λ e. e.part) es ≡ cpu_parts ps hs → All (ClosesAs key_of gives (v ∷ views) processors) es → All (AllRan v) ps
      → map (λ e. map (λ (r : Record R). r.key) e.ran) es ≡ map (λ p. keys_in p) ps
  ran_keys_each v views processors [] [] hs same h ran = refl
  ran_keys_each v views processors [] (p ∷ ps) hs same h ran = absurd (let long = ap (λ (l : List (CpuPart J R)). length l) same in omega (arith, long))
  ran_keys_each v views processors (e ∷ es) [] hs same h ran = absurd (let long = ap (λ (l : List (CpuPart J R)). length l) same in omega (arith, long))
  ran_keys_each v views processors (e ∷ es) (p ∷ ps) hs same h ran =
      let first = ap (λ (l : List (CpuPart J R)). get_or l 0 e.part) same in
      let rest = ap (λ (l : List (CpuPart J R)). drop 1 l) same in
      let Closed = ClosesAs key_of gives (v ∷ views) processors in
      let own = ran_keys v views processors p (cpu_part p (hand_for p hs)) e refl refl first (All-head Closed e es h) (All-head (AllRan v) p ps ran) in
      ap (λ l. l ∷ map (λ (x : CpuEnd J R). map (λ (r : Record R). r.key) x.ran) es) own
      ∙ ap (λ l. keys_in p ∷ l) (ran_keys_each v views processors es ps (hands_after p hs) rest (All-tail Closed e es h) (All-tail (AllRan v) p ps ran))

  -- where nothing had been accepted before, what ran on each processor is what it accepted
  pub all_ran_keys : (old new : Parts J R) (closed : Closed J R) → HaveRun key_of gives old new → AreUnused old → KeepWhole old → ClosesWith key_of gives new closed → keys_ran closed ≡ map (λ p. keys_in p) (processors_in new)
  all_ran_keys old new closed h unused keep c =
      let v = control_view new.control in
      let ran = zip_all (λ (p : Processor J R). p.state.accepted ≡ 0) (HasRun key_of gives v) (AllRan v) (all_ran v) (processors_in old) (processors_in new) h.processors unused in
      let views = other_views new ++ seats_of c.ends in
      let keys = map (λ (r : Record R). r.key) in
      sym (map-map keys (λ x. x.items) closed.ran.items)
      ∙ (ap (map keys) (answers_all _ (λ es closes k d lt. (closes k d lt).ends.whole) new closed (whole_stays old new (all_same old new h) keep) c) ∙ (map-map keys (λ (e : CpuEnd J R). e.ran) c.ends
      ∙ ran_keys_each v views (processors_of c.ends) c.ends (processors_in new) (hands_in new) c.parts_are c.closes ran))

  -- Processors of one open, in order, called and ran: the tickets of each are those of its own numbers.
  tickets_at : (v : View) (k : ℕ) (b : Board) (ps qs : List (Processor J R)) (own : List (List (Result Ticket (Refused J)))) → AreProcessorsFrom k b ps → AllZip (HasRun key_of gives v) ps qs → AllZip (λ q a. AreInOrder q.state.cpu 0 (tickets_in a)) qs own
      → (p : ℕ) → p < length own → AreInOrder (k + p) 0 (tickets_in (get_or own p []))
  unfolding AreProcessorsFrom
  tickets_at v k b [] [] [] from ran numbers p low = absurd (omega (arith, low))
  tickets_at v k b [] [] (a ∷ as') from ran numbers p low = absurd numbers
  tickets_at v k b [] (q ∷ qs) own from ran numbers p low = absurd ran
  tickets_at v k b (x ∷ ps) [] own from ran numbers p low = absurd ran
  tickets_at v k b (x ∷ ps) (q ∷ qs) [] from ran numbers p low = absurd numbers
  tickets_at v k b (x ∷ ps) (q ∷ qs) (a ∷ as') from ran numbers zero low =
      let cpu : q.state.cpu ≡ k = ran.0.same.cpu ∙ from.1 in let here : k ≡ k + 0 = omega arith in
      subst (λ c. AreInOrder c 0 (tickets_in a)) (cpu ∙ here) numbers.0
  tickets_at v k b (x ∷ ps) (q ∷ qs) (a ∷ as') from ran numbers (suc p) low =
      let next : suc k + p ≡ k + suc p = omega arith in
      subst (λ c. AreInOrder c 0 (tickets_in (get_or as' p []))) next (tickets_at v (suc k) b ps qs as' from.2 ran.1 numbers.1 p (omega (arith, low)))

  pub tickets_of_each : (v : View) (old : Parts J R) (qs : List (Processor J R)) (own : List (List (Result Ticket (Refused J)))) → AreOfOneOpen old → AllZip (HasRun key_of gives v) (processors_in old) qs → AllZip (λ q a. AreInOrder q.state.cpu 0 (tickets_in a)) qs own
      → (p : ℕ) → p < length own → AreInOrder p 0 (tickets_in (get_or own p []))
  tickets_of_each v old qs own one ran numbers p low =
      let here : 0 + p ≡ p = omega arith in
      subst (λ c. AreInOrder c 0 (tickets_in (get_or own p []))) here (tickets_at v 0 (parts_board old) (processors_in old) qs own one.processors ran numbers p low)

  -- so each job that was handed in has run or was refused
  pub all_have_run : (old new : Parts J R) (closed : Closed J R) (jobs : List J) (answers : List (List (Result Ticket (Refused J)))) → HaveRun key_of gives old new → AreUnused old → KeepWhole old → ClosesWith key_of gives new closed
      → HaveAllRun key_of jobs answers (map (λ p. keys_in p) (processors_in new)) → HaveAllRun key_of jobs answers (keys_ran closed)
  all_have_run old new closed jobs answers h unused keep c all = subst (HaveAllRun key_of jobs answers) (sym (all_ran_keys old new closed h unused keep c)) all
