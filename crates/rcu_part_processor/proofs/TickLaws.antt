-- What the steps of a tick come to together.
use Rattle.std.proofs.Common.{◌≡◌, ◌≢◌, ℕ, ◌+◌, ◌/◌, ◌<◌, ◌≤◌, Bool, true, false, inl, inr, Option, Some, None, List, [], map, length, length-append, ap, sym, ◌∙◌, refl, subst, arith, get_or-set_same, length-set}
use Rattle.std.specs.Prelude.{bit_and, max, if◌then◌else◌}
use Rattle.std.specs.Int.{from_bool}
use Rattle.std.proofs.lemmas.Bool.{cases_Bool}
use Rattle.std.proofs.lemmas.List.{length-map}
use Rattle.std.proofs.lemmas.List.Elements.{All-weaker}
use Rattle.rcu_numbers.specs.Words.{all_but_of}
use Rattle.rcu_board.specs.Plays.{looked, touched, urged}
use Rattle.rcu_board.specs.Views.{seen_at, tally}
use Rattle.rcu_board.specs.Words.{asks_word, board_word, needed_word, turns_word, urge_word, urge_bit, words_of}
use Rattle.rcu_board.specs.declared.view.View.{View}
use Rattle.rcu_board.specs.Frames.{Untouched}
use Rattle.rcu_board.proofs.Stepping.{HasWords, has_words, untouched, untouched_again}
use Rattle.rcu_part_lists.specs.Aims.{wanted, looked as after_looked}
use Rattle.rcu_part_lists.specs.ProcessorLists.{Holding, put_by}
use Rattle.rcu_jobs.specs.Modes.{is_deoffloading, is_local, is_offloaded}
use Rattle.rcu_part_lists.specs.Limits.{AreBelow}
use Rattle.rcu_part_lists.proofs.Aims.{callbacks-looked}
use Rattle.rcu_part_lists.proofs.Holdings.{no-callbacks}
use Rattle.rcu_jobs.specs.declared.callback.Callback.{Callback}
use Rattle.rcu_lists.specs.Labels.{Done, Labelled, marked}
use Rattle.rcu_part_order.specs.Records.{numbered_record}
use Rattle.rcu_part_steps.specs.Places.{numbered_callback}
use Rattle.rcu_part_processor.specs.Processors.{SameProcessor, board_of, lists_of, view_of}
use Rattle.rcu_part_processor.specs.Ticks.{Asks, CatchesUp, Heeds, Settles, RanDone, IsFresh, IsLocalOnceRun, RunsNoneOffloaded}
use Rattle.rcu_part_processor.specs.declared.processor.ProcessorState.{ProcessorState}
use Rattle.rcu_part_processor.proofs.Heeding.{Shifts, heeding, shifts_empty}

-- a step on word i leaves word j alone
untouched_by : (i j x : ℕ) (v w : View) → j ≢ i → w ≡ touched i x v → Untouched j v w
untouched_by i j x v w ne e = subst (λ (u : View). Untouched j v u) (sym e) (untouched i j x v ne)

same_there : (j : ℕ) (v w : View) → w ≡ v → Untouched j v w
same_there j v w e = record { seen = ap (λ (u : View). seen_at u j) e; steps = ap (λ (u : View). tally u j) e }

-- the ask changes no word but its own
asks_leave : (o : Option ℕ) (j : ℕ) (v w : View) → j ≢ needed_word → Asks o v w → Untouched j v w
asks_leave None j v w ne a = same_there j v w (a.none refl)
asks_leave (Some s) j v w ne a = untouched_by needed_word j (max a.found s) v w ne (a.some s refl)

looks_once : (k r : ℕ) (v : View) → HasWords k v → 0 < k → tally (looked r v) 0 ≡ tally v 0 + 1
looks_once k r v h low = get_or-set_same v.steps 0 (tally v 0 + 1) 0 (omega (arith, h.steps))

looks_leave : (r j : ℕ) (v : View) → j ≢ 0 → Untouched j v (looked r v)
looks_leave r j v ne = let o = untouched 0 j r v ne in record { seen = o.seen; steps = o.steps }

-- what was read of what is asked, and then of the urge word
module _ (k a u x r y : ℕ) (v w : View) (long : HasWords k v) (step : w ≡ urged u r y (touched a x v)) (differ : a ≢ u) where
  heeds_leave : (j : ℕ) → j ≢ a → j ≢ u → Untouched j v w
  heeds_leave j na nu = subst (λ (z : View). Untouched j v z) (sym step)
      (untouched_again j v (touched a x v) (urged u r y (touched a x v)) (untouched a j x v na) (let o = untouched u j r (touched a x v) nu in record { seen = o.seen; steps = o.steps }))

  heeds_asks : a < k → tally w a ≡ tally v a + 1
  heeds_asks low = ap (λ (z : View). tally z a) step ∙ ((untouched u a r (touched a x v) differ).steps ∙ get_or-set_same v.steps a (tally v a + 1) 0 (omega (arith, long.steps)))

  heeds_urges : u < k → tally w u ≡ tally v u + 1
  heeds_urges low = let o = untouched a u x v (λ e. differ (sym e)) in ap (λ (z : View). tally z u) step
      ∙ (get_or-set_same (touched a x v).steps u (tally (touched a x v) u + 1) 0 (omega (arith, long.steps, length-set v.steps a (tally v a + 1))) ∙ ap (λ (t : ℕ). t + 1) o.steps)

module _ {J R : Type 0} where
  -- what a tick's steps before its runs come to
  pub record Before (p q : ProcessorState J R) : Type 0 where
    pub cpu : q.cpu ≡ p.cpu
    pub board : tally (view_of q) board_word ≡ tally (view_of p) board_word + 1
    pub asks : tally (view_of q) (asks_word p.cpu) ≡ tally (view_of p) (asks_word p.cpu) + (if p.offloadable then 1 else 0)
    pub urges : tally (view_of q) (urge_word (board_of p).processors p.cpu) ≡ tally (view_of p) (urge_word (board_of p).processors p.cpu) + (if p.offloadable then 1 else 0)
    pub empty : (lists_of p).own ≡ [] → (lists_of q).own ≡ []
    pub local : is_local (lists_of p).mode ≡ false → is_local (lists_of q).mode ≡ true → AreBelow (seen_at (view_of q) (turns_word p.cpu) / 2) (put_by (lists_of q))

  -- the look, and the ask
  pub caught_up : (seen : ℕ) (p q : ProcessorState J R) → CatchesUp seen p q → (j : ℕ) → j ≢ board_word → j ≢ needed_word → Untouched j (view_of p) (view_of q)
  caught_up seen p q c j nb nn = untouched_again j (view_of p) (looked seen (view_of p)) (view_of q) (looks_leave seen j (view_of p) nb) (asks_leave (wanted seen (lists_of p).own) j (looked seen (view_of p)) (view_of q) nn c.asks)

  pub caught_once : (seen : ℕ) (p q : ProcessorState J R) → CatchesUp seen p q → tally (view_of q) board_word ≡ tally (view_of p) board_word + 1
  caught_once seen p q c = (asks_leave (wanted seen (lists_of p).own) board_word (looked seen (view_of p)) (view_of q) (λ e. absurd (omega (arith, e))) c.asks).steps
      ∙ looks_once (words_of (board_of p).processors) seen (view_of p) (has_words (board_of p) p.seat p.here) (omega arith)

  caught_empty : (seen : ℕ) (p q : ProcessorState J R) → CatchesUp seen p q → (lists_of p).own ≡ [] → (lists_of q).own ≡ []
  caught_empty seen p q c none = ap (λ (h : Holding J). h.own) c.lists ∙ no-callbacks (after_looked seen (lists_of p).own) (callbacks-looked seen (lists_of p).own ∙ ap (λ (xs : List (Labelled J)). map (λ (x : Labelled J). x.callback) xs) none)

  -- the release and the switch
  heeded : (moment : ℕ) (p q : ProcessorState J R) → Heeds moment p q → Shifts (lists_of p) (lists_of q)
  heeded moment p q h = heeding moment h.on h.urges p.accepted (lists_of p) h.released (lists_of q) h.releases h.asked_off h.asked_on

  heeds_step : (moment : ℕ) (p q : ProcessorState J R) (h : Heeds moment p q) (a u : ℕ) → asks_word p.cpu ≡ a → urge_word (board_of p).processors p.cpu ≡ u
      → view_of q ≡ urged u h.found (bit_and h.found (all_but_of (urge_bit p.cpu))) (touched a (from_bool h.on) (view_of p))
  heeds_step moment p q h a u ea eu = h.steps
      ∙ (ap (λ (i : ℕ). urged i h.found (bit_and h.found (all_but_of (urge_bit p.cpu))) (touched (asks_word p.cpu) (from_bool h.on) (view_of p))) eu
      ∙ ap (λ (i : ℕ). urged u h.found (bit_and h.found (all_but_of (urge_bit p.cpu))) (touched i (from_bool h.on) (view_of p))) ea)

  -- the turn word, if it was read
  settles_leave : (p q : ProcessorState J R) → Settles p q → (j : ℕ) → j ≢ turns_word p.cpu → Untouched j (view_of p) (view_of q)
  settles_leave p q s j ne = elim (cases_Bool (is_deoffloading (lists_of p).mode)) [
    | inl e ↦ untouched_by (turns_word p.cpu) j (seen_at (view_of q) (turns_word p.cpu)) (view_of p) (view_of q) ne (s.leaving e).0
    | inr e ↦ same_there j (view_of p) (view_of q) (s.others e).0
  ]

  settles_empty : (p q : ProcessorState J R) → Settles p q → (lists_of p).own ≡ [] → (lists_of q).own ≡ []
  settles_empty p q s none = elim (cases_Bool (is_deoffloading (lists_of p).mode)) [
    | inl e ↦ ap (λ (h : Holding J). h.own) (s.leaving e).1 ∙ none
    | inr e ↦ ap (λ (h : Holding J). h.own) (s.others e).1 ∙ none
  ]

  -- a processor that isn't offloadable only catches up
  pub before_local : (seen : ℕ) (p q : ProcessorState J R) → SameProcessor p q → CatchesUp seen p q → p.offloadable ≡ false → Before p q
  before_local seen p q same c off = record {
    cpu = same.cpu;
    board = caught_once seen p q c;
    asks = (caught_up seen p q c (asks_word p.cpu) (λ e. absurd (omega (arith, e))) (λ e. absurd (omega (arith, e)))).steps ∙ none (tally (view_of p) (asks_word p.cpu));
    urges = (caught_up seen p q c (urge_word (board_of p).processors p.cpu) (λ e. absurd (omega (arith, e))) (λ e. absurd (omega (arith, e)))).steps ∙ none (tally (view_of p) (urge_word (board_of p).processors p.cpu));
    empty = caught_empty seen p q c;
    local = λ was. (let f : true ≡ false = sym (ap is_local (p.local off).0) ∙ was in cc);
  } where
    none : (t : ℕ) → t ≡ t + (if p.offloadable then 1 else 0)
    none t = subst (λ (b : Bool). t ≡ t + (if b then 1 else 0)) (sym off) (omega arith)

  -- an offloadable one heeds what is asked, and settles
  pub before_offloadable : (seen moment : ℕ) (p q r s : ProcessorState J R) → SameProcessor p q → SameProcessor q r → SameProcessor r s → CatchesUp seen p q → p.offloadable ≡ true → Heeds moment q r → Settles r s → Before p s
  before_offloadable seen moment p q r s pq qr rs c on h t =
      let a = asks_word p.cpu in let u = urge_word (board_of p).processors p.cpu in
      let there = p.there in
      let qcpu = pq.cpu in let rcpu : r.cpu ≡ p.cpu = qr.cpu ∙ pq.cpu in
      let step = heeds_step moment q r h a u (ap asks_word qcpu) (ap (λ (b : _). urge_word b.processors q.cpu) pq.part.board ∙ ap (urge_word (board_of p).processors) qcpu) in
      let k = words_of (board_of q).processors in
      let boards : (board_of q).processors ≡ (board_of p).processors = ap (λ (b : _). b.processors) pq.part.board in
      let long = has_words (board_of q) q.seat q.here in
      let differ : a ≢ u = λ e. absurd (omega (arith, e)) in
      let leaves : (j : ℕ) → j ≢ a → j ≢ u → Untouched j (view_of q) (view_of r) = heeds_leave k a u (from_bool h.on) h.found (bit_and h.found (all_but_of (urge_bit q.cpu))) (view_of q) (view_of r) long step differ in
      let settled : (j : ℕ) → j ≢ turns_word p.cpu → Untouched j (view_of r) (view_of s) = λ j ne. settles_leave r s t j (λ e. ne (e ∙ ap turns_word rcpu)) in record {
        cpu = rs.cpu ∙ rcpu;
        board = (settled board_word (λ e. absurd (omega (arith, e)))).steps ∙ ((leaves board_word (λ e. absurd (omega (arith, e))) (λ e. absurd (omega (arith, e)))).steps ∙ caught_once seen p q c);
        asks = (settled a (λ e. absurd (omega (arith, e)))).steps ∙ (heeds_asks k a u (from_bool h.on) h.found (bit_and h.found (all_but_of (urge_bit q.cpu))) (view_of q) (view_of r) long step differ (omega (arith, boards, there))
            ∙ (ap (λ (x : ℕ). x + 1) (caught_up seen p q c a (λ e. absurd (omega (arith, e))) (λ e. absurd (omega (arith, e)))).steps ∙ one (tally (view_of p) a)));
        urges = (settled u (λ e. absurd (omega (arith, e)))).steps ∙ (heeds_urges k a u (from_bool h.on) h.found (bit_and h.found (all_but_of (urge_bit q.cpu))) (view_of q) (view_of r) long step differ (omega (arith, boards, there))
            ∙ (ap (λ (x : ℕ). x + 1) (caught_up seen p q c u (λ e. absurd (omega (arith, e))) (λ e. absurd (omega (arith, e)))).steps ∙ one (tally (view_of p) u)));
        empty = λ none. settles_empty r s t (shifts_empty (lists_of q) (lists_of r) (heeded moment q r h) (caught_empty seen p q c none));
        local = λ was is. subst (λ (i : ℕ). AreBelow (seen_at (view_of s) (turns_word i) / 2) (put_by (lists_of s))) rcpu
            (t.local ((heeded moment q r h).mode (ap (λ (x : Holding J). is_local x.mode) c.lists ∙ was)) is);
      } where
        one : (n : ℕ) → n + 1 ≡ n + (if p.offloadable then 1 else 0)
        one n = subst (λ (b : Bool). n + 1 ≡ n + (if b then 1 else 0)) (sym on) refl

  -- the numbers of callbacks and records that were run
  ran_none : (n tried seen : ℕ) (p q : ProcessorState J R) → RanDone n tried seen p q → (lists_of p).own ≡ [] → n ≡ 0
  ran_none n tried seen p q r none =
      let calls : length (marked Done r.calls) + length (lists_of q).own ≡ 0 = sym (length-append (marked Done r.calls) (lists_of q).own) ∙ ap length (sym r.done ∙ none) in
      let many : length r.calls ≡ length r.records = sym (length-map r.calls (numbered_callback {J = J})) ∙ (ap length r.same ∙ length-map r.records (numbered_record {R = R})) in
      omega (arith, calls, length-map r.calls (done_call), many, r.many)
    where
      done_call : Callback J → Labelled J
      done_call c = record { label = Done; callback = c }

  -- the whole tick
  module _ (n tried seen : ℕ) (p b q : ProcessorState J R) (x : Before p b) (r : RanDone n tried seen b q) where
    other : (j : ℕ) → j ≢ turns_word p.cpu → Untouched j (view_of b) (view_of q)
    other j ne = r.steps.others j (λ e. ne (e ∙ ap turns_word x.cpu))

    pub tick_fresh : IsFresh p q
    tick_fresh = record {
      board = (other board_word (λ e. absurd (omega (arith, e)))).steps ∙ x.board;
      asks = (other (asks_word p.cpu) (λ e. absurd (omega (arith, e)))).steps ∙ x.asks;
      urges = (other (urge_word (board_of p).processors p.cpu) (λ e. absurd (omega (arith, e)))).steps ∙ x.urges;
    }

    pub tick_none : RunsNoneOffloaded n p q
    tick_none = record {
      before = λ on. ran_none n tried seen b q r (x.empty (p.lists.bypassing on));
      after = λ on. ran_none n tried seen b q r (b.lists.bypassing (sym (ap (λ (h : Holding J). is_offloaded h.mode) r.others) ∙ on));
    }

    pub tick_local : IsLocalOnceRun p q
    tick_local = λ was is. let mode = sym (ap (λ (h : Holding J). is_local h.mode) r.others) ∙ is in let less = x.local was mode in
        subst (λ (cs : List (Callback J)). AreBelow (seen_at (view_of q) (turns_word p.cpu) / 2) cs) (sym (ap put_by r.others))
        (All-weaker (λ (c : Callback J). c.number < seen_at (view_of b) (turns_word p.cpu) / 2) (λ (c : Callback J). c.number < seen_at (view_of q) (turns_word p.cpu) / 2)
        (λ c low. omega (arith, low, subst (λ (i : ℕ). seen_at (view_of b) (turns_word i) ≤ seen_at (view_of q) (turns_word i)) x.cpu r.later)) (put_by (lists_of b)) less)
