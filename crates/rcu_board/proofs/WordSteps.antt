-- The steps on the other words keep the rule.
use Rattle.rcu_board.specs.Views.{one_if, Every, total, seen_at, sight, accepted_count, fresh_count, one_if_claim, one_if_on, claimed, runs, cpus, one_if_equal, own_count, control_count}
use Rattle.rcu_board.specs.Laws.{OddEquals, BoardRule, ViewAlone, AcceptLawInView, TurnLawInView, OwnLaw, ReportLawInView}
use Rattle.rcu_board.specs.Quiets.{Chain}
use Rattle.rcu_board.specs.Words.{words_of, urges_word, accepts_word, turns_word, asks_word, reports_word, period_of, cpu_of}
use Rattle.rcu_board.specs.Plays.{SeatState, touched, Loading, Switching, Needing, accept_own, accepted, Accepting, Counting, Shutting, claim_of, claiming, Claiming, finished, Finishing, urged, Urging, Hearing}
use Rattle.std.proofs.Common.{◌≡◌, ◌≢◌, ℕ, zero, suc, ◌+◌, ◌*◌, ◌%◌, ◌/◌, ◌^◌, ◌<◌, ◌≤◌, Bool, true, cond, eqb, ltb, None, List, [], ◌∷◌, ◌++◌, map, length, get_or, set, sym, refl, ap, ◌∙◌, subst, arith, eq-eqb, ne_eqb, max}
use mathlib.Core.Logic.{dite}
use mathlib.Core.Option.{some, none, some-injective}
use native.Mathlib.Decide.{ℕ_discrete, dec_le}
use lib.ListN.{get_elem?}
use prog.Atomic.{either}
use Rattle.std.specs.Prelude.{bit_and, bit_or}
use Rattle.std.specs.Int.{bit_at}
use Rattle.std.proofs.lemmas.Nat.Bits.{bit_at_or, bit_at_lowest, bit_at-suc, bit_at-zero, same_from_bits}
use Rattle.atomic_table.specs.Table.{State, Act, Valid, step, keeps, carried_after, stepped, Allows}
use Rattle.atomic_table.proofs.Lists.{exchanged}
use Rattle.rcu_board.specs.declared.view.View.{View}
use Rattle.rcu_board.specs.declared.view.Own.{Own}
use Rattle.rcu_board.specs.declared.view.Claim.{Claim}
use Rattle.rcu_board.specs.declared.view.Accepted.{Accepted}
use Rattle.rcu_board.proofs.Views.{every, every_map, every_one, the_one, every_nil, every_append, every_own, not_own, two_of, cpus-map, at_same, total-append, total-set}
use Rattle.rcu_board.proofs.Moved.{SteppedWord, OtherViews, after, moved, same_total}
use Rattle.rcu_board.proofs.Turns.{TurnCounts, turn_counts, below_yes, below_no}
use Rattle.rcu_board.proofs.BoardSteps.{seen_here, seen_else, alone_touched, beside_touched}

-- ---- what a step on a word but the board's shares

module _ (n seats : ℕ) (s : State ℕ View) (k : BoardRule n seats s) (id : ℕ) (v : View) (at : get_elem? s.views id ≡ some v) (live : 0 < v.weight) (i : ℕ) (not_board : i ≢ 0) (near : i < words_of n) where
  -- what the view says by itself still holds where its lists of own, claims and running are
  pub still_alone : (x : ℕ) (w : View) → w.weight ≡ v.weight → w.drives ≡ v.drives → w.seen ≡ v.seen → w.steps ≡ v.steps
      → cpus w.own ≡ cpus v.own
      → Every (λ (o : Own). Every (λ (a : Accepted). a.stamp ≤ sight v) o.accepted) w.own
      → Every (λ (c : Claim). c.sight ≤ sight v) w.claims → Every (λ (c : Claim). 0 < claimed c.cpu c.number w) w.running → Every (λ (o : Own). Chain 0 o.quiets (period_of o.word)) w.own → ViewAlone n (touched i x w)
  still_alone x w weight drives seen steps owns stamps sights running quiets = let same : sight v ≡ sight (touched i x w) = ap (λ (l : List ℕ). get_or l 0 0) (sym seen) ∙ sym (seen_else w i x 0 (λ e. not_board (sym e))) in
      alone_touched n v w i x (k.alone id v at) live weight drives seen steps owns
      (subst (λ (z : ℕ). Every (λ (o : Own). Every (λ (a : Accepted). a.stamp ≤ z) o.accepted) w.own) same stamps)
      (subst (λ (z : ℕ). Every (λ (c : Claim). c.sight ≤ z) w.claims) same sights) running quiets

  now_seen : (x : ℕ) (w : View) → w.seen ≡ v.seen → seen_at (touched i x w) i ≡ x
  now_seen x w e = seen_here w i x (omega (arith, ap length e, (k.alone id v at).seen_long live))

  same_turning : (p x : ℕ) (w : View) → w.claims ≡ v.claims → w.running ≡ v.running → TurnCounts p x s.views → TurnCounts p x (set s.views id w)
  same_turning p x w c r t = record {
    once = λ j. same_total (total (claimed p j) (set s.views id w)) (total (claimed p j) s.views) (claimed p j v) (claimed p j w) (total-set (claimed p j) s.views id v w at) (ap (total (one_if_claim p j)) c) ∙ t.once j;
    one = same_total (total (runs p) (set s.views id w)) (total (runs p) s.views) (runs p v) (runs p w) (total-set (runs p) s.views id v w at) (ap (total (one_if_on p)) r) ∙ t.one;
  }

  -- no other view is control's
  one_control : (j : ℕ) (u : View) → j ≢ id → get_elem? s.views j ≡ some u → v.controls ≡ true → u.controls ≡ true → ⊥
  one_control j u ne there mine its = let e = two_of control_count s.views id j v u (λ z. ne (sym z)) at there in let f : control_count v ≡ 1 = ap (λ (z : Bool). cond z 1 0) mine in let g : control_count u ≡ 1 = ap (λ (z : Bool). cond z 1 0) its in let one = k.seats.control in omega arith

  -- a load
  pub loaded : let x : ℕ = get_or s.words i 0 in BoardRule n seats (after s i x id (touched i x v))
  loaded = let x : ℕ = get_or s.words i 0 in let t = k.alone id v at in let w : View = touched i x v in
      let now : seen_at w i ≡ x = now_seen x v refl in
      moved n seats s k id v w at live i x near (still_alone x v refl refl refl refl refl t.stamps t.claims t.running t.quiets)
      (beside_touched i x v v refl refl refl refl refl refl refl (λ p _ y h. h) (λ p _ y h. h) (λ p _ y h. h) (λ p _. ((λ j. refl), refl)))
      record {
        board = λ e. absurd (not_board e);
        numbers = λ e. absurd (not_board e);
        reports = λ p low e. let here : seen_at w (reports_word p) ≡ x = ap (λ (j : ℕ). seen_at w j) (sym e) ∙ now in let old = subst (λ (j : ℕ). ReportLawInView p (get_or s.words j 0) v) (sym e) (k.report p low id v at) in
            ((λ _ _ h. h), record { below = omega (arith, ap period_of here); own = old.own }, λ _ u _ _ _ h. h);
        needed = λ e. (omega (arith, ap (λ (j : ℕ). seen_at w j) e, now), omega arith);
        accepts = λ p low e. let here : seen_at w (accepts_word p) ≡ x = ap (λ (j : ℕ). seen_at w j) (sym e) ∙ now in let old = subst (λ (j : ℕ). AcceptLawInView p (get_or s.words j 0) v) (sym e) (k.accept p low id v at) in
            (record { sight = omega (arith, here); odd_sight = λ _. here; merged = old.merged; count = old.count; shut = λ _. ap (λ (z : ℕ). z % 2) here }, λ _ u _ _ _ h. h);
        turns = λ p low e. let here : seen_at w (turns_word p) ≡ x = ap (λ (j : ℕ). seen_at w j) (sym e) ∙ now in let old = subst (λ (j : ℕ). TurnLawInView p (get_or s.words j 0) v) (sym e) ((k.turn p low).in_views id v at) in
            (record { sight = omega (arith, here); running = old.running }, (λ _ u _ _ _ h. h), same_turning p x w refl refl (subst (λ (j : ℕ). TurnCounts p (get_or s.words j 0) s.views) (sym e) (turn_counts _ _ _ (k.turn p low))));
        asks = λ p low e. let here : seen_at w (asks_word p) ≡ x = ap (λ (j : ℕ). seen_at w j) (sym e) ∙ now in
            (subst (λ (j : ℕ). get_or s.words j 0 < 2) (sym e) ((k.ask p low).value), (λ _. here), λ _ u _ _ _ h. h);
        halt = λ e. subst (λ (j : ℕ). get_or s.words j 0 < 2) (sym e) k.halt;
      }

  -- a store of 0 or 1 in a word of control's
  pub stored : v.controls ≡ true → i ≢ 1 → ((p : ℕ) → i ≢ accepts_word p) → ((p : ℕ) → i ≢ turns_word p) → ((p : ℕ) → i ≢ reports_word p) → (y : ℕ) → y < 2 → BoardRule n seats (after s i y id (touched i y v))
  stored mine a b c d y bit = let t = k.alone id v at in moved n seats s k id v (touched i y v) at live i y near (still_alone y v refl refl refl refl refl t.stamps t.claims t.running t.quiets)
      (beside_touched i y v v refl refl refl refl refl refl refl (λ p _ z h. h) (λ p _ z h. h) (λ p _ z h. h) (λ p _. ((λ j. refl), refl)))
      record { board = λ e. absurd (not_board e); numbers = λ e. absurd (not_board e); reports = λ p _ e. absurd (d p e); needed = λ e. absurd (a e); accepts = λ p _ e. absurd (b p e); turns = λ p _ e. absurd (c p e); asks = λ p low e. (bit, (λ _. ap (λ (j : ℕ). seen_at (touched i y v) j) (sym e) ∙ now_seen y v refl), λ j u ne there nt _ its. absurd (one_control j u ne there mine its)); halt = λ _. bit }

-- ---- loads and stores

module _ (n seats slots id : ℕ) (m : SeatState) (live : 0 < m.0.weight) where
  pub needed_allowed : Allows (BoardRule n seats) slots id m 1 (λ y. y) (Loading (step slots 1 0 0 none) m)
  needed_allowed s k _ at _ = (touched 1 (get_or s.words 1 0) m.0, keeps, tt, loaded n seats s k id m.0 at live 1 (λ e. omega arith) (omega arith), record { view = refl; later = k.needed id m.0 at })

  pub count_allowed : (p : ℕ) → p < n → Allows (BoardRule n seats) slots id m (accepts_word p) (λ y. y) (Counting (step slots (accepts_word p) 0 0 none) m)
  count_allowed p low s k _ at _ = let i : ℕ = accepts_word p in let x : ℕ = get_or s.words i 0 in let a = k.accept p low id m.0 at in let same : p ≡ cpu_of i = omega arith in (
    touched i x m.0,
    keeps,
    tt,
    loaded n seats s k id m.0 at live i (λ e. omega arith) (omega arith),
    record { view = refl; later = a.sight; final = a.odd_sight; own = subst (λ (q : ℕ). Every (λ (o : Own). o.cpu ≡ q → x / 2 ≡ accepted_count o) m.0.own) same a.count },
  )

  pub turn_allowed : (p : ℕ) → p < n → Allows (BoardRule n seats) slots id m (turns_word p) (λ y. y) (Loading (step slots (turns_word p) 0 0 none) m)
  turn_allowed p low s k _ at _ = let i : ℕ = turns_word p in (touched i (get_or s.words i 0) m.0, keeps, tt, loaded n seats s k id m.0 at live i (λ e. omega arith) (omega arith), record { view = refl; later = ((k.turn p low).in_views id m.0 at).sight })

  pub load_ask_allowed : (p : ℕ) → p < n → Allows (BoardRule n seats) slots id m (asks_word p) (λ y. y) (Switching (step slots (asks_word p) 0 0 none) m)
  load_ask_allowed p low s k _ at _ = let i : ℕ = asks_word p in (touched i (get_or s.words i 0) m.0, keeps, tt, loaded n seats s k id m.0 at live i (λ e. omega arith) (omega arith), record { view = refl; small = (k.ask p low).value })

  pub load_halt_allowed : Allows (BoardRule n seats) slots id m 2 (λ y. y) (Switching (step slots 2 0 0 none) m)
  load_halt_allowed s k _ at _ = (touched 2 (get_or s.words 2 0) m.0, keeps, tt, loaded n seats s k id m.0 at live 2 (λ e. omega arith) (omega arith), record { view = refl; small = k.halt })

  pub store_ask_allowed : m.0.controls ≡ true → (p new : ℕ) → p < n → new < 2 → Allows (BoardRule n seats) slots id m (asks_word p) (λ _. new) (λ _. Switching (step slots (asks_word p) new 0 none) m new)
  store_ask_allowed mine p new low bit s k _ at _ = let i : ℕ = asks_word p in (touched i new m.0, keeps, tt, stored n seats s k id m.0 at live i (λ e. omega arith) (omega arith) mine (λ e. omega arith) (λ q e. omega arith) (λ q e. omega arith) (λ q e. omega arith) new bit, record { view = refl; small = bit })

  pub store_halt_allowed : m.0.controls ≡ true → (new : ℕ) → new < 2 → Allows (BoardRule n seats) slots id m 2 (λ _. new) (λ _. Switching (step slots 2 new 0 none) m new)
  store_halt_allowed mine new bit s k _ at _ = (touched 2 new m.0, keeps, tt, stored n seats s k id m.0 at live 2 (λ e. omega arith) (omega arith) mine (λ e. omega arith) (λ q e. omega arith) (λ q e. omega arith) (λ q e. omega arith) new bit, record { view = refl; small = bit })

  pub need_allowed : (new : ℕ) → Allows (BoardRule n seats) slots id m 1 (λ y. max y new) (Needing (step slots 1 new 0 none) m)
  need_allowed new s k _ at _ = let x : ℕ = get_or s.words 1 0 in let y : ℕ = max x new in let v : View = m.0 in let w : View = touched 1 y v in let t = k.alone id v at in
      let now : seen_at w 1 ≡ y = now_seen n seats s k id v at live 1 (λ e. omega arith) (omega arith) y v refl in (
        w,
        keeps,
        tt,
        moved n seats s k id v w at live 1 y (omega arith) (still_alone n seats s k id v at live 1 (λ e. omega arith) (omega arith) y v refl refl refl refl refl t.stamps t.claims t.running t.quiets)
            (beside_touched 1 y v v refl refl refl refl refl refl refl (λ p _ z h. h) (λ p _ z h. h) (λ p _ z h. h) (λ p _. ((λ j. refl), refl)))
            record { board = λ e. absurd (omega arith); numbers = λ e. absurd (omega arith); reports = λ p _ e. absurd (omega arith); needed = λ _. (omega (arith, now), omega arith); accepts = λ p _ e. absurd (omega arith); turns = λ p _ e. absurd (omega arith); asks = λ p _ e. absurd (omega arith); halt = λ e. absurd (omega arith) },
        record { view = refl; later = k.needed id v at },
      )

-- ---- accept

one_bits : (x i : ℕ) → bit_at (bit_or x 1) i ≡ bit_at (x / 2 * 2 + 1) i
one_bits x zero = let a = bit_at_or x 1 0 in let b = bit_at_lowest x in let c = bit_at_lowest (x / 2 * 2 + 1) in let d = bit_at_lowest 1 in omega arith
one_bits x (suc i) = let a = bit_at_or x 1 (suc i) in let b = bit_at-suc x i in let c = bit_at-suc (x / 2 * 2 + 1) i in let d = bit_at-suc 1 i in let e = bit_at-zero i in
    let f : bit_at ((x / 2 * 2 + 1) / 2) i ≡ bit_at (x / 2) i = ap (λ (z : ℕ). bit_at z i) (omega arith) in let g : bit_at (1 / 2) i ≡ 0 = e in omega arith

or_one : (x : ℕ) → bit_or x 1 ≡ x / 2 * 2 + 1
or_one x = same_from_bits (bit_or x 1) (x / 2 * 2 + 1) (one_bits x)

module _ (n seats : ℕ) (s : State ℕ View) (k : BoardRule n seats s) (id : ℕ) (v : View) (at : get_elem? s.views id ≡ some v) (live : 0 < v.weight) (p : ℕ) (low : p < n) where
  -- the law of A_p, where that word goes from x to y
  here_accepts : (y : ℕ) (w : View) → let x : ℕ = get_or s.words (accepts_word p) 0 in AcceptLawInView p y w → OtherViews n id s.views (AcceptLawInView p x) (AcceptLawInView p y)
      → SteppedWord n id s.views (accepts_word p) x y w
  here_accepts y w mine others = let x : ℕ = get_or s.words (accepts_word p) 0 in record {
    board = λ e. absurd (omega arith);
    numbers = λ e. absurd (omega arith);
    reports = λ q _ e. absurd (omega arith);
    needed = λ e. absurd (omega arith);
    accepts = λ q _ e. let same : p ≡ q = omega arith in subst (λ (j : ℕ). AcceptLawInView j y w × OtherViews n id s.views (AcceptLawInView j x) (AcceptLawInView j y)) same (mine, others);
    turns = λ q _ e. absurd (omega arith);
    asks = λ q _ e. absurd (omega arith);
    halt = λ e. absurd (omega arith);
  }

  here_turns : (y : ℕ) (w : View) → let x : ℕ = get_or s.words (turns_word p) 0 in TurnLawInView p y w → OtherViews n id s.views (TurnLawInView p x) (TurnLawInView p y) → TurnCounts p y (set s.views id w)
      → SteppedWord n id s.views (turns_word p) x y w
  here_turns y w mine others turning = let x : ℕ = get_or s.words (turns_word p) 0 in record {
    board = λ e. absurd (omega arith);
    numbers = λ e. absurd (omega arith);
    reports = λ q _ e. absurd (omega arith);
    needed = λ e. absurd (omega arith);
    accepts = λ q _ e. absurd (omega arith);
    turns = λ q _ e. let same : p ≡ q = omega arith in subst (λ (j : ℕ). TurnLawInView j y w × OtherViews n id s.views (TurnLawInView j x) (TurnLawInView j y) × TurnCounts j y (set s.views id w)) same (mine, others, turning);
    asks = λ q _ e. absurd (omega arith);
    halt = λ e. absurd (omega arith);
  }

module _ (n seats slots id : ℕ) (m : SeatState) (live : 0 < m.0.weight) (p : ℕ) (low : p < n) where
  pub shut_allowed : m.0.controls ≡ true → Allows (BoardRule n seats) slots id m (accepts_word p) (λ y. bit_or y 1) (Shutting (step slots (accepts_word p) 1 0 none) m)
  shut_allowed commanding s k _ at _ = let i : ℕ = accepts_word p in let x : ℕ = get_or s.words i 0 in let y : ℕ = x / 2 * 2 + 1 in let v : View = m.0 in let w : View = touched i y v in
      let t = k.alone id v at in let a = k.accept p low id v at in
      let off : i ≢ 0 = λ e. omega arith in let near : i < words_of n = omega arith in
      let now : seen_at w i ≡ y = now_seen n seats s k id v at live i off near y v refl in
      let half : y / 2 ≡ x / 2 = omega arith in
      let count : (u : View) → Every (λ (o : Own). o.cpu ≡ p → x / 2 ≡ accepted_count o) u.own → Every (λ (o : Own). o.cpu ≡ p → y / 2 ≡ accepted_count o) u.own
      = λ u. every (λ (o : Own). o.cpu ≡ p → x / 2 ≡ accepted_count o) (λ (o : Own). o.cpu ≡ p → y / 2 ≡ accepted_count o) (λ o h e. half ∙ h e) u.own in
      let stays : (u : View) → Every (OddEquals p x) u.merged → Every (OddEquals p y) u.merged = λ u. every (OddEquals p x) (OddEquals p y) (λ l h odd. let e = h odd in omega arith) u.merged in
      let mine : AcceptLawInView p y w = record { sight = omega arith; odd_sight = λ _. now; merged = stays v a.merged; count = count v a.count; shut = λ _. ap (λ (z : ℕ). z % 2) now } in
      let others : OtherViews n id s.views (AcceptLawInView p x) (AcceptLawInView p y) = λ j u ne there nt h. record {
        sight = let e = h.sight in omega arith;
        odd_sight = λ odd. let e = h.odd_sight odd in omega arith;
        merged = stays u h.merged;
        count = count u h.count;
        shut = λ its. absurd (one_control n seats s k id v at live i off near j u ne there commanding its);
      } in (
        w,
        keeps,
        tt,
        subst (λ (z : ℕ). BoardRule n seats (after s i z id w)) (sym (or_one x)) (moved n seats s k id v w at live i y near (still_alone n seats s k id v at live i off near y v refl refl refl refl refl t.stamps t.claims t.running t.quiets)
            (beside_touched i y v v refl refl refl refl refl refl refl (λ p _ z h. h) (λ p _ z h. h) (λ p _ z h. h) (λ p _. ((λ j. refl), refl)))
            (here_accepts n seats s k id v at live p low y w mine others)),
        record { view = refl; later = a.sight; final = a.odd_sight },
      )

  pub accept_allowed : (o : Own) (key c : ℕ) → m.0.own ≡ o ∷ [] → o.cpu ≡ p → o.fresh ≡ None → length o.accepted ≡ c
      → Allows (BoardRule n seats) slots id m (accepts_word p) (λ y. either (eqb y (2 * c)) (2 * c + 2) y) (Accepting (step slots (accepts_word p) (2 * c) (2 * c + 2) (some key)) m)
  accept_allowed o key c only is clean counts s k _ at _ = let i : ℕ = accepts_word p in let x : ℕ = get_or s.words i 0 in let y : ℕ = 2 * c + 2 in let v : View = m.0 in
      let t = k.alone id v at in let a = k.accept p low id v at in
      let off : i ≢ 0 = λ e. omega arith in let near : i < words_of n = omega arith in
      let near_own = the_one (λ (u : ℕ). u < n) o.cpu (subst (λ (l : List Own). Every (λ (u : ℕ). u < n) (cpus l)) only t.processors) in let one_own : own_count o.cpu v ≡ 1 = ap (λ (l : List Own). total (one_if_equal o.cpu) (cpus l)) only ∙ (let e = at_same o.cpu o.cpu refl in omega arith) in
      let was : x / 2 ≡ accepted_count o = the_one (λ (u : Own). u.cpu ≡ p → x / 2 ≡ accepted_count u) o (subst (Every (λ (u : Own). u.cpu ≡ p → x / 2 ≡ accepted_count u)) only a.count) is in
      let none_fresh : fresh_count o.fresh ≡ 0 = ap fresh_count clean in
      let half : x / 2 ≡ c = omega arith in
      exchanged x (2 * c) y (λ z. (w : View) × (b : Act ℕ) × Valid s.homes m.1 b × BoardRule n seats (stepped s i z id m.1 w b) × Accepting (step slots i (2 * c) y (some key)) m x (w, carried_after m.1 b))
      (λ hit. let f : Own → Own = accept_own key in let v' : View = record v { own = map f v.own } in let w : View = accepted i y key v in
      let now : seen_at w i ≡ y = now_seen n seats s k id v at live i off near y v' refl in
      let stays : (u : View) → Every (OddEquals p x) u.merged → Every (OddEquals p y) u.merged
      = λ u. every (OddEquals p x) (OddEquals p y) (λ l h odd. let e = h odd in absurd (omega (arith, ap (λ (z : ℕ). z % 2) e))) u.merged in
      let mine : AcceptLawInView p y w = record {
        sight = omega arith;
        odd_sight = λ odd. absurd (omega (arith, ap (λ (z : ℕ). z % 2) now));
        merged = stays v a.merged;
        shut = λ _. ap (λ (z : ℕ). z % 2) now;
        count = subst (λ (l : List Own). Every (λ (u : Own). u.cpu ≡ p → y / 2 ≡ accepted_count u) (map f l)) (sym only) (every_one (λ (u : Own). u.cpu ≡ p → y / 2 ≡ accepted_count u) (f o) (λ _. omega arith));
      } in
      let others : OtherViews n id s.views (AcceptLawInView p x) (AcceptLawInView p y) = λ j u ne there nt h. record {
        sight = let e = h.sight in omega arith;
        odd_sight = λ odd. let e = h.odd_sight odd in absurd (omega (arith, ap (λ (z : ℕ). z % 2) e));
        merged = stays u h.merged;
        shut = λ its. let e = h.shut its in omega arith;
        count = let no = not_own o.cpu u.own (let e = two_of (own_count o.cpu) s.views id j v u (λ z. ne (sym z)) at there in let g = k.seats.processor o.cpu near_own in omega arith) in
            every_own (λ (q : ℕ). q ≢ o.cpu) (λ (q : Own). q.cpu ≡ p → x / 2 ≡ accepted_count q) (λ (q : Own). q.cpu ≡ p → y / 2 ≡ accepted_count q) (λ q z _ e. absurd (z (e ∙ sym is))) u.own no h.count;
      } in (
        w,
        keeps,
        tt,
        moved n seats s k id v w at live i y near
            (still_alone n seats s k id v at live i off near y v' refl refl refl refl
            (cpus-map f (λ u. refl) v.own)
            (every_map (λ (u : Own). Every (λ (b : Accepted). b.stamp ≤ sight v) u.accepted) (λ (u : Own). Every (λ (b : Accepted). b.stamp ≤ sight v) u.accepted) f (λ u h. h) v.own t.stamps)
            t.claims t.running (every_map (λ (u : Own). Chain 0 u.quiets (period_of u.word)) (λ (u : Own). Chain 0 u.quiets (period_of u.word)) f (λ u h. h) v.own t.quiets))
            (beside_touched i y v v' refl refl refl refl refl refl (cpus-map f (λ u. refl) v.own)
            (λ r _ z. every_map (λ (u : Own). u.cpu ≡ r → OwnLaw z u) (λ (u : Own). u.cpu ≡ r → OwnLaw z u) f (λ u h e. let l = h e in record { below = l.below; away = l.away; here = l.here }) v.own)
            (λ q away z _. subst (λ (l : List Own). Every (λ (u : Own). u.cpu ≡ q → z / 2 ≡ accepted_count u) (map f l)) (sym only)
            (every_one (λ (u : Own). u.cpu ≡ q → z / 2 ≡ accepted_count u) (f o) (λ e. absurd (away (omega arith)))))
            (λ q _ z h. h) (λ q _. ((λ j. refl), refl)))
            (here_accepts n seats s k id v at live p low y w mine others),
        record { won = λ key' same _. ap (λ (z : ℕ). (accepted i y z v, m.1)) (some-injective key key' same); shut = λ away. absurd (away hit); odd = λ away. absurd (away hit); later = a.sight; final = a.odd_sight },
      ))
      (λ miss. (touched i x v, keeps, tt, loaded n seats s k id v at live i off near, record { won = λ _ _ hit. absurd (miss hit); shut = λ _. refl; odd = λ _. omega arith; later = a.sight; final = a.odd_sight }))

-- ---- claims

abbrev number_or : List Claim → ℕ
number_or [] = 0
number_or (c ∷ cs) = c.number

claim_other : (p q j : ℕ) (c : Claim) → c.cpu ≡ p → p ≢ q → one_if_claim q j c ≡ 0
claim_other p q j c e ne = ap (λ b. cond b (cond (eqb c.number j) 1 0) 0) (ne_eqb c.cpu q (λ h. ne (sym e ∙ h)))

on_other : (p q : ℕ) (c : Claim) → c.cpu ≡ p → p ≢ q → one_if_on q c ≡ 0
on_other p q c e ne = ap (λ b. cond b 1 0) (ne_eqb c.cpu q (λ h. ne (sym e ∙ h)))

on_same : (p : ℕ) (c : Claim) → c.cpu ≡ p → one_if_on p c ≡ 1
on_same p c e = ap (λ b. cond b 1 0) (eq-eqb c.cpu p e)

claim_here : (p j : ℕ) (c : Claim) → c.cpu ≡ p → c.number ≡ j → one_if_claim p j c ≡ 1
claim_here p j c e h = ap (λ b. cond b (cond (eqb c.number j) 1 0) 0) (eq-eqb c.cpu p e) ∙ ap (λ b. cond b 1 0) (eq-eqb c.number j h)

claim_else : (p j : ℕ) (c : Claim) → c.cpu ≡ p → c.number ≢ j → one_if_claim p j c ≡ 0
claim_else p j c e h = ap (λ b. cond b (cond (eqb c.number j) 1 0) 0) (eq-eqb c.cpu p e) ∙ ap (λ b. cond b 1 0) (ne_eqb c.number j h)

-- claiming k puts it among the numbers below k + 1
once_more : (p k j x : ℕ) (c : Claim) → c.cpu ≡ p → c.number ≡ k → x ≡ 2 * k → one_if (ltb j ((x + 1) / 2)) + one_if_claim p j c ≡ one_if (ltb j ((2 * k + 1 + 1) / 2))
once_more p k j x c e h is = dite (ℕ_discrete k j)
    (λ same. omega (arith, claim_here p j c e (h ∙ same), below_no j ((x + 1) / 2) (omega arith), below_yes j ((2 * k + 1 + 1) / 2) (omega arith)))
    (λ apart. dite (dec_le (suc j) k)
    (λ less. omega (arith, claim_else p j c e (λ z. apart (sym h ∙ z)), below_yes j ((x + 1) / 2) (omega arith), below_yes j ((2 * k + 1 + 1) / 2) (omega arith)))
    (λ more. omega (arith, claim_else p j c e (λ z. apart (sym h ∙ z)), below_no j ((x + 1) / 2) (omega arith), below_no j ((2 * k + 1 + 1) / 2) (omega arith))))

-- where none runs, none is of this processor
none_runs : (p x : ℕ) (l : List Claim) → total (one_if_on p) l ≡ 0 → Every (λ (c : Claim). c.cpu ≡ p → x ≡ 2 * c.number + 1) l
unfolding Every
none_runs p x [] e = tt
none_runs p x (c ∷ cs) e = ((λ is. absurd (omega (arith, on_same p c is))), none_runs p x cs (omega arith))

module _ (n seats slots id : ℕ) (m : SeatState) (live : 0 < m.0.weight) (p : ℕ) (low : p < n) where
  pub claim_allowed : (q : ℕ) → m.0.running ≡ [] → Allows (BoardRule n seats) slots id m (turns_word p) (λ y. either (eqb y (2 * q)) (2 * q + 1) y) (Claiming (step slots (turns_word p) (2 * q) (2 * q + 1) none) m)
  claim_allowed q rests s k _ at _ = let i : ℕ = turns_word p in let x : ℕ = get_or s.words i 0 in let y : ℕ = 2 * q + 1 in let v : View = m.0 in
      let t = k.alone id v at in let a = (k.turn p low).in_views id v at in let turning = turn_counts _ _ _ (k.turn p low) in
      let off : i ≢ 0 = λ e. omega arith in let near : i < words_of n = omega arith in
      exchanged x (2 * q) y (λ z. (w : View) × (b : Act ℕ) × Valid s.homes m.1 b × BoardRule n seats (stepped s i z id m.1 w b) × Claiming (step slots i (2 * q) y none) m x (w, carried_after m.1 b))
      (λ hit. let c : Claim = claim_of p q v in let v' : View = record v { claims = v.claims ++ c ∷ []; running = c ∷ [] } in let w : View = claiming i y p q v in
      let now : seen_at w i ≡ y = now_seen n seats s k id v at live i off near y v' refl in
      let mine : TurnLawInView p y w = record { sight = omega arith; running = every_one (λ (d : Claim). d.cpu ≡ p → y ≡ 2 * d.number + 1) c (λ _. refl) } in
      let others : OtherViews n id s.views (TurnLawInView p x) (TurnLawInView p y) = λ j u ne there nt h. record {
        sight = let e = h.sight in omega arith;
        running = every (λ (d : Claim). d.cpu ≡ p → x ≡ 2 * d.number + 1) (λ (d : Claim). d.cpu ≡ p → y ≡ 2 * d.number + 1) (λ d g e. let f = g e in absurd (omega arith)) u.running h.running;
      } in
      let next : TurnCounts p y (set s.views id w) = record {
        once = λ j. let e = total-set (claimed p j) s.views id v w at in let f = total-append (one_if_claim p j) v.claims (c ∷ []) in let g = turning.once j in let h = once_more p q j x c refl refl hit in omega arith;
        one = let e = total-set (runs p) s.views id v w at in let f : runs p v ≡ 0 = ap (total (one_if_on p)) rests in let g = turning.one in let h = on_same p c refl in omega arith;
      } in (
        w,
        keeps,
        tt,
        moved n seats s k id v w at live i y near
            (still_alone n seats s k id v at live i off near y v' refl refl refl refl refl t.stamps
            (every_append (λ (d : Claim). d.sight ≤ sight v) v.claims (c ∷ []) t.claims (every_one (λ (d : Claim). d.sight ≤ sight v) c (omega arith)))
            (every_one (λ (d : Claim). 0 < claimed d.cpu d.number v') c (let f = total-append (one_if_claim p q) v.claims (c ∷ []) in let g = claim_here p q c refl refl in omega arith)) t.quiets)
            (beside_touched i y v v' refl refl refl refl refl refl refl (λ q _ z h. h) (λ q _ z h. h)
            (λ r away z _. every_one (λ (d : Claim). d.cpu ≡ r → z ≡ 2 * d.number + 1) c (λ e. absurd (away (omega arith))))
            (λ r away. let apart : p ≢ r = λ e. away (omega arith) in (
              (λ j. let f = total-append (one_if_claim r j) v.claims (c ∷ []) in let g = claim_other p r j c refl apart in omega arith),
              (let f : runs r v ≡ 0 = ap (total (one_if_on r)) rests in let g = on_other p r c refl apart in omega arith),
            )))
            (here_turns n seats s k id v at live p low y w mine others next),
        record { won = λ _. let e : p ≡ cpu_of i = omega arith in let f : q ≡ 2 * q / 2 = omega arith in λ z. (claiming i y (e z) (f z) v, m.1); lost = λ away. absurd (away hit); later = a.sight },
      ))
      (λ miss. (touched i x v, keeps, tt, loaded n seats s k id v at live i off near, record { won = λ hit. absurd (miss hit); lost = λ _. refl; later = a.sight }))

  pub finish_allowed : (c : Claim) → m.0.running ≡ c ∷ [] → c.cpu ≡ p → c.number < 9007199254740992
      → Allows (BoardRule n seats) slots id m (turns_word p) (λ y. (y + 1) % 2 ^ 64) (Finishing (step slots (turns_word p) 1 0 none) m)
  finish_allowed c runs_it is small s k _ at _ = let i : ℕ = turns_word p in let x : ℕ = get_or s.words i 0 in let y : ℕ = x + 1 in let v : View = m.0 in
      let t = k.alone id v at in let a = (k.turn p low).in_views id v at in let turning = turn_counts _ _ _ (k.turn p low) in
      let off : i ≢ 0 = λ e. omega arith in let near : i < words_of n = omega arith in
      let odd : x ≡ 2 * c.number + 1 = the_one (λ (d : Claim). d.cpu ≡ p → x ≡ 2 * d.number + 1) c (subst (Every (λ (d : Claim). d.cpu ≡ p → x ≡ 2 * d.number + 1)) runs_it a.running) is in
      let v' : View = record v { running = [] } in let w : View = finished i y v in
      let now : seen_at w i ≡ y = now_seen n seats s k id v at live i off near y v' refl in
      let one_here : runs p v ≡ 1 = ap (total (one_if_on p)) runs_it ∙ (let g = on_same p c is in omega arith) in
      let all_one : total (runs p) s.views ≡ 1 = turning.one ∙ omega arith in
      let mine : TurnLawInView p y w = record { sight = omega arith; running = every_nil (λ (d : Claim). d.cpu ≡ p → y ≡ 2 * d.number + 1) } in
      let others : OtherViews n id s.views (TurnLawInView p x) (TurnLawInView p y) = λ j u ne there nt h. record { sight = let e = h.sight in omega arith; running = none_runs p y u.running (let f = two_of (runs p) s.views id j v u (λ z. ne (sym z)) at there in omega arith) } in
      let next : TurnCounts p y (set s.views id w) = record {
        once = λ j. let e = total-set (claimed p j) s.views id v w at in let g = turning.once j in let same : (x + 1) / 2 ≡ (y + 1) / 2 = omega arith in same_total (total (claimed p j) (set s.views id w)) (total (claimed p j) s.views) (claimed p j v) (claimed p j w) e refl ∙ g ∙ ap (λ (z : ℕ). one_if (ltb j z)) same;
        one = let e = total-set (runs p) s.views id v w at in omega arith;
      } in
      let fits : y ≡ (x + 1) % 18446744073709551616 = omega arith in (
        w,
        keeps,
        tt,
        subst (λ (z : ℕ). BoardRule n seats (after s i z id w)) fits (moved n seats s k id v w at live i y near
            (still_alone n seats s k id v at live i off near y v' refl refl refl refl refl t.stamps t.claims (every_nil (λ (d : Claim). 0 < claimed d.cpu d.number v')) t.quiets)
            (beside_touched i y v v' refl refl refl refl refl refl refl (λ q _ z h. h) (λ q _ z h. h)
            (λ r away z _. every_nil (λ (d : Claim). d.cpu ≡ r → z ≡ 2 * d.number + 1))
            (λ r away. ((λ j. refl), (let f : runs r v ≡ total (one_if_on r) (c ∷ []) = ap (total (one_if_on r)) runs_it in let g = on_other p r c is (λ e. away (omega arith)) in omega arith))))
            (here_turns n seats s k id v at live p low y w mine others next)),
        record { view = refl; runs = λ d e. odd ∙ ap (λ (l : List Claim). 2 * number_or l + 1) (sym runs_it ∙ e); later = a.sight },
      )

-- ---- the urged processors

module _ (n seats slots id : ℕ) (m : SeatState) (live : 0 < m.0.weight) (i k' : ℕ) (is : i ≡ urges_word n k') (there : k' ≤ n / 64) where
  urge_goes : (s : State ℕ View) (k : BoardRule n seats s) → get_elem? s.views id ≡ some m.0 → (y left : ℕ) → BoardRule n seats (after s i y id (urged i (get_or s.words i 0) left m.0))
  urge_goes s k at y left = let v : View = m.0 in let x : ℕ = get_or s.words i 0 in let v' : View = record v { left = left } in let t = k.alone id v at in
      moved n seats s k id v (urged i x left v) at live i y (omega arith)
      (still_alone n seats s k id v at live i (λ e. omega arith) (omega arith) x v' refl refl refl refl refl t.stamps t.claims t.running t.quiets)
      (beside_touched i x v v' refl refl refl refl refl refl refl (λ p _ z h. h) (λ p _ z h. h) (λ p _ z h. h) (λ p _. ((λ j. refl), refl)))
      record {
        board = λ e. absurd (omega arith);
        numbers = λ e. absurd (omega arith);
        reports = λ p _ e. absurd (omega arith);
        needed = λ e. absurd (omega arith);
        accepts = λ p low e. absurd (omega arith);
        turns = λ p low e. absurd (omega arith);
        asks = λ p low e. absurd (omega arith);
        halt = λ e. absurd (omega arith);
      }

  pub urge_allowed : (all : ℕ) → Allows (BoardRule n seats) slots id m i (λ y. bit_or y all) (Urging (step slots i all 0 none) m)
  urge_allowed all s k _ at _ = let x : ℕ = get_or s.words i 0 in let y : ℕ = bit_or x all in (urged i x y m.0, keeps, tt, urge_goes s k at y y, refl)

  pub hear_allowed : (others : ℕ) → Allows (BoardRule n seats) slots id m i (λ y. bit_and y others) (Hearing (step slots i others 0 none) m)
  hear_allowed others s k _ at _ = let x : ℕ = get_or s.words i 0 in let y : ℕ = bit_and x others in (urged i x y m.0, keeps, tt, urge_goes s k at y y, refl)
