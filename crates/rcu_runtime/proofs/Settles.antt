-- Where all that was accepted has run, no job comes back.
use Rattle.std.proofs.Common.{◌≡◌, ℕ, zero, suc, ◌+◌, ◌/◌, ◌<◌, ◌≤◌, ◌∙◌, List, [], ◌∷◌, ◌++◌, Option, Some, Ok, map, drop, length, get_or, slice_index_or, ap, sym, subst, refl, arith}
use Rattle.std.specs.Prelude.{◌≢◌, All}
use Rattle.std.proofs.lemmas.List.{length-map}
use Rattle.rcu_board.specs.Seats.{accepted_of}
use Rattle.rcu_board.specs.Views.{seen_at}
use Rattle.rcu_board.specs.Words.{turns_word}
use Rattle.rcu_board.specs.declared.board.Board.{Board}
use Rattle.rcu_board.specs.declared.view.View.{View}
use Rattle.rcu_part_control.specs.Barriers.{IsOver}
use Rattle.rcu_part_control.specs.Parts.{control_view}
use Rattle.rcu_part_control.specs.declared.barrier.Barrier.{Barrier}
use Rattle.rcu_part_close.proofs.Closings.{as_many_ended}
use Rattle.rcu_part_close.specs.Closing.{CpuEnd, EndsAs, processors_of, seats_of}
use Rattle.rcu_part_steps.specs.Places.{accepted_entry, accepted_list}
use Rattle.rcu_part_close.specs.Parts.{CpuPart, HandPart}
use Rattle.rcu_jobs.specs.declared.Counts.{Counts}
use Rattle.rcu_jobs.specs.declared.Passed.{Passed}
use Rattle.rcu_jobs.specs.declared.answers.Closed.{Closed}
use Rattle.rcu_part_hand.specs.declared.hand.Hand.{Hand}
use Rattle.rcu_part_processor.specs.Processors.{view_of}
use Rattle.rcu_part_processor.specs.declared.processor.Processor.{Processor}
use Rattle.rcu_parts.specs.AtClose.{AccountsFor, cpu_part, cpu_parts, hand_for, hands_after, other_views}
use Rattle.rcu_parts.specs.Drained.{HasNoneBack}
use Rattle.rcu_parts.specs.OneOpen.{AreOfOneOpen, AreProcessorsFrom, Parts, hands_in, parts_board, processors_in}
use Rattle.rcu_parts.specs.SameParts.{AreSameParts}
use Rattle.rcu_runtime.specs.Calls.{AsksOnce, OnControl, Opens, Polls}
use Rattle.rcu_runtime.proofs.Wholes.{continues_again}
use Rattle.rcu_runtime.specs.Runtimes.{Continues}
use Rattle.rcu_runtime.specs.Settled.{HasPassed, HasRunAll, IsCounted}
use Rattle.std.proofs.lemmas.List.Elements.{All-cons, All-head, All-map, All-nil, All-tail}
use Rattle.rcu_lemmas.proofs.All.{All-unmap}

no_longer : {X : Type 0} (l : List X) → length l ≤ 0 → l ≡ []
no_longer [] short = refl
no_longer (x ∷ xs) short = absurd (omega (arith, short))

module _ {J R : Type 0} where
  -- a barrier that was polled and passed has passed
  pub passed_by : (counts : Counts) (passed : Passed) (old new : Parts J R) → OnControl (Polls counts (Some passed)) old new → HasPassed counts passed new
  passed_by counts passed old new polls = record { counts_are = polls.does.0; over = polls.does.1.over }

  -- a barrier that a runtime opened counts as many processors as it has
  pub opened_own : (b : Barrier) (old new : Parts J R) → OnControl (Opens [] (Ok b)) old new → AreSameParts old new → b.counts.n ≡ (parts_board new).processors
  opened_own b old new opens same = opens.does.0.many ∙ ap (λ (c : Board). c.processors) (sym same.control.board)

  -- a barrier was opened, and polled once
  pub asked_once : (b : Barrier) (passed : Option Passed) (old between new : Parts J R) → OnControl (Opens [] (Ok b)) old between → OnControl (Polls b.counts passed) between new → OnControl AsksOnce old new
  asked_once b passed old between new opens polls = record {
    does = record { barrier = b; passed = passed; between = between.control; opens = opens.does; polls = polls.does };
    processors = polls.processors ∙ opens.processors;
    groups = polls.groups ∙ opens.groups;
    hands = polls.hands ∙ opens.hands;
    driver = polls.driver ∙ opens.driver;
    continues = continues_again old between new opens.continues polls.continues;
    none = polls.none ∙ opens.none;
  }

  -- a runtime that went on has as many processors
  pub as_many_on : (old new : Parts J R) → Continues old new → (parts_board new).processors ≡ (parts_board old).processors
  as_many_on old new on = ap (λ (b : Board). b.processors) on.same.control.board

  -- so a barrier that counts another number later counted another one at first, and one that counts as many, as many
  pub other_on : (n : ℕ) (old new : Parts J R) → Continues old new → n ≢ (parts_board new).processors → n ≢ (parts_board old).processors
  other_on n old new on other = subst (λ (m : ℕ). n ≢ m) (as_many_on old new on) other

  pub number_on : (n : ℕ) (old new : Parts J R) → Continues old new → n ≡ (parts_board new).processors → n ≡ (parts_board old).processors
  number_on n old new on same = same ∙ as_many_on old new on

  module _ (counts : Counts) (parts : Parts J R) (over : IsOver counts (control_view parts.control)) where
    -- of a processor all of whose accepted callbacks the barrier counted no job comes back
    none_of : (es : List (CpuEnd J R)) (e : CpuEnd J R) (p : Processor J R) (hand : Option (HandPart J R)) → e.part ≡ cpu_part p hand → p.state.cpu < counts.n → IsCounted counts p
        → EndsAs (control_view parts.control ∷ (other_views parts ++ seats_of es)) (processors_of es) e → e.back ≡ []
    none_of es e p hand part low counted h =
        let v = control_view parts.control in
        let cpu = ap (λ (c : CpuPart J R). c.cpu) part in
        let view = ap (λ (c : CpuPart J R). c.view) part in
        let many : length (accepted_list e.part.view) ≡ p.state.accepted = ap (λ (w : View). length (accepted_list w)) view ∙ (length-map (accepted_of (view_of p.state)) accepted_entry ∙ p.state.lawful.counted) in
        let turns : seen_at v (turns_word e.part.cpu) / 2 ≤ length e.ran = All-head (λ (w : View). seen_at w (turns_word e.part.cpu) / 2 ≤ length e.ran) v (other_views parts ++ seats_of es) h.turns in
        let seen : seen_at v (turns_word e.part.cpu) ≡ seen_at v (turns_word p.state.cpu) = ap (λ k. seen_at v (turns_word k)) cpu in
        let done = over p.state.cpu low in
        no_longer e.back (omega (arith, many, turns, seen, done, counted, as_many_ended (v ∷ (other_views parts ++ seats_of es)) (processors_of es) e h))

    none_each : (k : ℕ) (b : Board) (all es : List (CpuEnd J R)) (ps : List (Processor J R)) (hs : List (Hand J R)) → map (λ x. x.part) es ≡ cpu_parts ps hs
        → counts.n ≡ b.processors → AreProcessorsFrom k b ps → All (IsCounted counts) ps → All (EndsAs (control_view parts.control ∷ (other_views parts ++ seats_of all)) (processors_of all)) es → All (λ e. e.back ≡ []) es
    unfolding AreProcessorsFrom
    none_each k b all [] ps hs same many from counted h = All-nil (λ (e : CpuEnd J R). e.back ≡ [])
    none_each k b all (e ∷ es) [] hs same many from counted h = absurd (let long = ap (λ (l : List (CpuPart J R)). length l) same in omega (arith, long))
    none_each k b all (e ∷ es) (p ∷ ps) hs same many from counted h =
        let first : e.part ≡ cpu_part p (hand_for p hs) = ap (λ (l : List (CpuPart J R)). get_or l 0 e.part) same in
        let rest = ap (λ (l : List (CpuPart J R)). drop 1 l) same in
        let near : p.state.cpu < counts.n = omega (arith, p.state.there, ap (λ (c : Board). c.processors) from.0, many) in
        let Ends = EndsAs (control_view parts.control ∷ (other_views parts ++ seats_of all)) (processors_of all) in
        All-cons (λ (x : CpuEnd J R). x.back ≡ []) e es (none_of all e p (hand_for p hs) first near (All-head (IsCounted counts) p ps counted) (All-head Ends e es h))
        (none_each (suc k) b all es ps (hands_after p hs) rest many from.2 (All-tail (IsCounted counts) p ps counted) (All-tail Ends e es h))

  pub run_none_back : (parts : Parts J R) (closed : Closed J R) → HasRunAll parts → AreOfOneOpen parts → AccountsFor parts closed → HasNoneBack closed
  run_none_back parts closed r one c =
      let None = λ (l : List J). l ≡ [] in
      let each = none_each r.counts parts r.over 0 (parts_board parts) c.ends c.ends (processors_in parts) (hands_in parts) c.parts_are r.many one.processors r.counted c.closes in
      let lists : All None (map (λ (e : CpuEnd J R). e.back) c.ends) = All-map None (λ (e : CpuEnd J R). e.back) c.ends each in
      All-unmap None (λ b. b.items) closed.back.items (subst (All None) (sym c.back) lists)

module _ {J R : Type 0} where
  -- The counts have all that the first n processors accepted.
  abbrev pub AreCountedTo : Counts → ℕ → List (Processor J R) → Type 0
  AreCountedTo counts n ps = (k : ℕ) (d : Processor J R) → k < n → IsCounted counts (slice_index_or ps k d)

  -- one processor more is counted
  pub one_more_counted : (counts : Counts) (n : ℕ) (ps : List (Processor J R)) (x : Processor J R) → n < length ps → x ≡ get_or ps n x → IsCounted counts x → AreCountedTo counts n ps → AreCountedTo counts (n + 1) ps
  one_more_counted counts n [] x there is c h k d low = absurd (omega (arith, there))
  one_more_counted counts zero (p ∷ ps) x there is c h zero d low = subst (IsCounted counts) is c
  one_more_counted counts zero (p ∷ ps) x there is c h (suc k) d low = absurd (omega (arith, low))
  one_more_counted counts (suc n) (p ∷ ps) x there is c h zero d low = h zero d (omega arith)
  one_more_counted counts (suc n) (p ∷ ps) x there is c h (suc k) d low =
      one_more_counted counts n ps x (omega (arith, there)) is c (λ j e few. h (suc j) e (omega (arith, few))) k d (omega (arith, low))

  -- all that was accepted has run, where a barrier passed that counts it
  pub has_run : (b : Barrier) (passed : Passed) (old between new parts : Parts J R) → OnControl (Opens [] (Ok b)) old between → AreSameParts old between → OnControl (Polls b.counts (Some passed)) between new → AreSameParts between new
      → parts ≡ new → All (IsCounted passed.counts) (processors_in parts) → HasRunAll new
  has_run b passed old between new parts opens first polls second seen counted = record {
    counts = b.counts;
    many = opened_own b old between opens first ∙ ap (λ (c : Board). c.processors) (sym second.control.board);
    counted = subst (λ (x : Counts). All (IsCounted x) (processors_in new)) polls.does.0 (subst (λ (x : Parts J R). All (IsCounted passed.counts) (processors_in x)) seen counted);
    over = polls.does.1.over;
  }
