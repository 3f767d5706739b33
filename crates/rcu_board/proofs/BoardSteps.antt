-- The steps on the board word keep the rule.
use Rattle.rcu_board.specs.Views.{Every, total, seen_at, sight, accepted_count, fresh_count, claimed, runs, cpus, one_if_equal, own_count, driver_count}
use Rattle.rcu_board.specs.Laws.{Each, OddEquals, BoardRule, BoardLaw, ViewAlone, IsNumber, BoardLawInView, Accounted, OwnLaw, ReportLawInView}
use Rattle.rcu_board.specs.Quiets.{IsQuiet, Chain}
use Rattle.rcu_numbers.specs.declared.sequence.TheConstants.{LAST_NUMBER}
use Rattle.rcu_board.specs.Words.{accepts_word, turns_word, asks_word, reports_word, period_of, away_of}
use Rattle.rcu_board.specs.Plays.{SeatState, touched, with_stamp, stamp_own, looked, stepped_own, report_own, leave_own, return_own, Looking, Driving, Reporting, Leaving, Returning, Sighting, Meeting}
use Rattle.std.proofs.Common.{◌≡◌, ◌≢◌, ℕ, ◌+◌, ◌-◌, ◌*◌, ◌%◌, ◌/◌, ◌^◌, ◌<◌, ◌≤◌, Bool, true, false, cond, eqb, ◌++◌, Option, Some, None, List, [], ◌∷◌, map, length, get_or, sym, refl, ap, ◌∙◌, subst, arith, length-set, get_or-set_other, get_or-set_same, length-append}
use mathlib.Core.Logic.{dite}
use mathlib.Core.Option.{some, none}
use native.Mathlib.Decide.{ℕ_discrete}
use lib.ListN.{get_elem?}
use prog.Atomic.{either}
use Rattle.atomic_table.specs.Table.{State, Me, Act, Valid, step, stepped, carried_after, keeps, Allows}
use Rattle.atomic_table.proofs.Lists.{exchanged}
use Rattle.rcu_board.specs.declared.view.View.{View}
use Rattle.rcu_board.specs.declared.view.Own.{Own}
use Rattle.rcu_board.specs.declared.view.Quiet.{Quiet}
use Rattle.rcu_board.specs.declared.view.Claim.{Claim}
use Rattle.rcu_board.specs.declared.view.Accepted.{Accepted}
use Rattle.rcu_board.proofs.Views.{every_else, every, every_map, every_one, the_one, every_append, every_both, every_own, not_own, two_of, cpus-map, at_same}
use Rattle.rcu_board.proofs.Chains.{chain_more}
use Rattle.rcu_board.proofs.Asks.{no_true}
use Rattle.rcu_board.proofs.Moved.{one_more, after, OtherWords, SteppedWord, OtherViews, moved}

-- ---- touched views

pub seen_here : (v : View) (i x : ℕ) → i < length v.seen → seen_at (touched i x v) i ≡ x
seen_here v i x h = get_or-set_same v.seen i x 0 h

pub seen_else : (v : View) (i x j : ℕ) → j ≢ i → seen_at (touched i x v) j ≡ seen_at v j
seen_else v i x j ne = get_or-set_other v.seen i j x 0 ne

-- a step that changes nothing but own, claims and running, besides what it touches
pub alone_touched : (n : ℕ) (v w : View) (i x : ℕ) → ViewAlone n v → 0 < v.weight
    → w.weight ≡ v.weight → w.drives ≡ v.drives → w.seen ≡ v.seen → w.steps ≡ v.steps
    → cpus w.own ≡ cpus v.own
    → Every (λ (o : Own). Every (λ (a : Accepted). a.stamp ≤ sight (touched i x w)) o.accepted) w.own
    → Every (λ (c : Claim). c.sight ≤ sight (touched i x w)) w.claims
    → Every (λ (c : Claim). 0 < claimed c.cpu c.number w) w.running
    → Every (λ (o : Own). Chain 0 o.quiets (period_of o.word)) w.own
    → ViewAlone n (touched i x w)
alone_touched n v w i x t live weight drives seen steps owns stamps sights running quiets = record {
  quiets = quiets;
  no_seat = λ e. absurd (omega arith);
  seen_long = λ _. length-set w.seen i x ∙ ap length seen ∙ t.seen_long live;
  steps_long = λ _. length-set w.steps i (get_or w.steps i 0 + 1) ∙ ap length steps ∙ t.steps_long live;
  processors = subst (Every (λ (q : ℕ). q < n)) (sym owns) t.processors;
  stamps = stamps;
  claims = sights;
  running = running;
}

pub beside_touched : (i x : ℕ) (v w : View) → w.weight ≡ v.weight → w.drives ≡ v.drives → w.controls ≡ v.controls → w.seen ≡ v.seen → w.steps ≡ v.steps → w.merged ≡ v.merged → cpus w.own ≡ cpus v.own
    → ((p : ℕ) → i ≢ reports_word p → (y : ℕ) → Every (λ (o : Own). o.cpu ≡ p → OwnLaw y o) v.own → Every (λ (o : Own). o.cpu ≡ p → OwnLaw y o) w.own)
    → ((p : ℕ) → i ≢ accepts_word p → (y : ℕ) → Every (λ (o : Own). o.cpu ≡ p → y / 2 ≡ accepted_count o) v.own → Every (λ (o : Own). o.cpu ≡ p → y / 2 ≡ accepted_count o) w.own)
    → ((p : ℕ) → i ≢ turns_word p → (y : ℕ) → Every (λ (c : Claim). c.cpu ≡ p → y ≡ 2 * c.number + 1) v.running → Every (λ (c : Claim). c.cpu ≡ p → y ≡ 2 * c.number + 1) w.running)
    → ((p : ℕ) → i ≢ turns_word p → ((k : ℕ) → claimed p k w ≡ claimed p k v) × (runs p w ≡ runs p v))
    → OtherWords i v (touched i x w)
beside_touched i x v w weight drives controls seen steps merged own reports counts running claims =
    let same : (j : ℕ) → i ≢ j → seen_at (touched i x w) j ≡ seen_at v j = λ j ne. seen_else w i x j (λ e. ne (sym e)) ∙ ap (λ (l : List ℕ). get_or l j 0) seen in record {
      weight = weight;
      drives = drives;
      controls = controls;
      own = own;
      tallies = ap (one_more i) steps;
      board = λ ne y t. let e = same 0 ne in record { sight = omega (arith, t.sight, e); driver = λ d. e ∙ t.driver (sym drives ∙ d) };
      reports = λ p ne y t. let e = same (reports_word p) ne in record { below = let b = t.below in omega (arith, ap period_of e); own = reports p ne y t.own };
      needed = λ ne. same 1 ne;
      accepts = λ p ne y t. let e = same (accepts_word p) ne in record { sight = omega (arith, t.sight, e); odd_sight = λ odd. e ∙ t.odd_sight (ap (λ (z : ℕ). z % 2) (sym e) ∙ odd); count = counts p ne y t.count; shut = λ c. ap (λ (z : ℕ). z % 2) e ∙ t.shut (sym controls ∙ c); merged = subst (Every (OddEquals p y)) (sym merged) t.merged };
      turns = λ p ne y t. let e = same (turns_word p) ne in record { sight = omega (arith, t.sight, e); running = running p ne y t.running };
      asks = λ p ne y t c. same (asks_word p) ne ∙ t (sym controls ∙ c);
      claims = claims;
    }

-- ---- arithmetic

start_law : (s x : ℕ) → s % 4 ≡ 0 → Accounted s x → Accounted (s + 1) x
start_law s x idle a = let i = a.idle idle in record { idle = λ e. absurd (omega arith); busy = λ _. (1, omega arith, omega arith) }

end_law : (s x k : ℕ) → s % 4 ≡ 1 → k ≡ s → k ≤ x / 2 → Accounted s x → Accounted (s + 3) x
end_law s x k busy is le a = let b = a.busy busy in record { idle = λ _. omega (arith, b.1, b.2); busy = λ e. absurd (omega arith) }

-- who owes at a number that it has seen in progress sees the number that is
owes_now : (s x seq : ℕ) → IsNumber s → Accounted s x → seq ≤ s → seq % 4 ≡ 1 → x / 2 < seq → (s ≡ seq) × (x / 2 ≡ seq - 4)
owes_now s x seq is a le busy owes = let state = is.state in dite (ℕ_discrete (s % 4) 0)
    (λ idle. let i = a.idle idle in absurd (omega arith))
    (λ ne. let b = a.busy (omega arith) in (omega (arith, b.1, b.2), omega (arith, b.1, b.2)))

counted_law : (s y : ℕ) → s % 4 ≡ 1 → y / 2 ≡ s → Accounted s y
counted_law s y busy e = record { idle = λ i. absurd (omega arith); busy = λ _. (0, omega arith, omega arith) }

-- p was accounted for in no grace period above the number
small_period : (s x : ℕ) → IsNumber s → Accounted s x → period_of x ≤ LAST_NUMBER
small_period s x is a = let state = is.state in let small = is.small in dite (ℕ_discrete (s % 4) 0)
    (λ idle. let i = a.idle idle in omega arith)
    (λ ne. let b = a.busy (omega arith) in omega (arith, b.2))

same_period : (s x y : ℕ) → y / 2 ≡ x / 2 → Accounted s x → Accounted s y
same_period s x y e a = record { idle = λ i. e ∙ a.idle i; busy = λ i. let b = a.busy i in (b.0, b.1, e ∙ b.2) }

-- ---- steps on N

module _ (n id : ℕ) (views : List View) (x y : ℕ) (w : View) where
  pub here_board : IsNumber y → BoardLawInView y w → OtherViews n id views (BoardLawInView x) (BoardLawInView y) → ((p z : ℕ) → p < n → Accounted x z → Each views (ReportLawInView p z) → Accounted y z) → SteppedWord n id views 0 x y w
  here_board is mine others law = record {
    board = λ _. (is, mine, others);
    numbers = λ _. law;
    reports = λ p _ e. absurd (omega arith);
    needed = λ e. absurd (omega arith);
    accepts = λ p _ e. absurd (omega arith);
    turns = λ p _ e. absurd (omega arith);
    asks = λ p _ e. absurd (omega arith);
    halt = λ e. absurd (omega arith);
  }

  pub here_reports : (p : ℕ) → ((N : ℕ) → BoardLaw N views → Accounted N x → Accounted N y) → ReportLawInView p y w → OtherViews n id views (ReportLawInView p x) (ReportLawInView p y) → SteppedWord n id views (reports_word p) x y w
  here_reports p law mine others = record {
    board = λ e. absurd (omega arith);
    numbers = λ e. absurd (omega arith);
    reports = λ q _ e. let same : p ≡ q = omega arith in (law, subst (λ (j : ℕ). ReportLawInView j y w) same mine, subst (λ (j : ℕ). OtherViews n id views (ReportLawInView j x) (ReportLawInView j y)) same others);
    needed = λ e. absurd (omega arith);
    accepts = λ q _ e. absurd (omega arith);
    turns = λ q _ e. absurd (omega arith);
    asks = λ q _ e. absurd (omega arith);
    halt = λ e. absurd (omega arith);
  }

count_stamped : (s : ℕ) (xs : List Accepted) (f : Option ℕ) → length (with_stamp s xs f) + 0 ≡ length xs + fresh_count f
count_stamped s xs None = refl
count_stamped s xs (Some key) = let l = length-append xs (record { key = key; stamp = s } ∷ []) in omega arith

stamps_kept : (a b : ℕ) → a ≤ b → (xs : List Accepted) (f : Option ℕ) → Every (λ (t : Accepted). t.stamp ≤ a) xs → Every (λ (t : Accepted). t.stamp ≤ b) (with_stamp b xs f)
stamps_kept a b le xs None h = every (λ (t : Accepted). t.stamp ≤ a) (λ (t : Accepted). t.stamp ≤ b) (λ t m. omega arith) xs h
stamps_kept a b le xs (Some key) h = every_append (λ (t : Accepted). t.stamp ≤ b) xs (record { key = key; stamp = b } ∷ [])
    (every (λ (t : Accepted). t.stamp ≤ a) (λ (t : Accepted). t.stamp ≤ b) (λ t m. omega arith) xs h) (every_one (λ (t : Accepted). t.stamp ≤ b) (record { key = key; stamp = b }) (omega arith))

module _ (n seats slots id : ℕ) (m : SeatState) (live : 0 < m.0.weight) where
  pub look_allowed : Allows (BoardRule n seats) slots id m 0 (λ y. y) (Looking (step slots 0 0 0 none) m)
  look_allowed s o _ at _ = let x : ℕ = get_or s.words 0 0 in let v : View = m.0 in let w : View = looked x v in
      let t = o.alone id v at in let b = o.board.in_views id v at in
      let v' : View = record v { own = map (stamp_own x) v.own } in
      let long : 0 < length v'.seen = omega (arith, t.seen_long live) in
      let now : sight w ≡ x = seen_here v' 0 x long in
      let later : sight v ≤ x = b.sight in
      let f : Own → Own = stamp_own x in
      let lawful : ViewAlone n w = alone_touched n v v' 0 x t live refl refl refl refl
      (cpus-map f (λ u. refl) v.own)
      (subst (λ (z : ℕ). Every (λ (u : Own). Every (λ (a : Accepted). a.stamp ≤ z) u.accepted) v'.own) (sym now)
      (every_map (λ (u : Own). Every (λ (a : Accepted). a.stamp ≤ sight v) u.accepted) (λ (u : Own). Every (λ (a : Accepted). a.stamp ≤ x) u.accepted) f (λ u h. stamps_kept (sight v) x later u.accepted u.fresh h) v.own t.stamps))
      (every (λ (c : Claim). c.sight ≤ sight v) (λ (c : Claim). c.sight ≤ sight w) (λ c h. omega arith) v.claims t.claims) t.running
      (every_map (λ (u : Own). Chain 0 u.quiets (period_of u.word)) (λ (u : Own). Chain 0 u.quiets (period_of u.word)) f (λ u h. h) v.own t.quiets) in
      let same_counts : (p y : ℕ) → Every (λ (u : Own). u.cpu ≡ p → y / 2 ≡ accepted_count u) v.own → Every (λ (u : Own). u.cpu ≡ p → y / 2 ≡ accepted_count u) v'.own
      = λ p y. every_map (λ (u : Own). u.cpu ≡ p → y / 2 ≡ accepted_count u) (λ (u : Own). u.cpu ≡ p → y / 2 ≡ accepted_count u) f (λ u h e. h e ∙ sym (count_stamped x u.accepted u.fresh)) v.own in
      let same_words : (p y : ℕ) → Every (λ (u : Own). u.cpu ≡ p → OwnLaw y u) v.own → Every (λ (u : Own). u.cpu ≡ p → OwnLaw y u) v'.own
      = λ p y. every_map (λ (u : Own). u.cpu ≡ p → OwnLaw y u) (λ (u : Own). u.cpu ≡ p → OwnLaw y u) f (λ u h e. let l = h e in record { below = l.below; away = l.away; here = l.here }) v.own in
      let mine : BoardLawInView x w = record { sight = omega arith; driver = λ _. now } in (
        w,
        keeps,
        tt,
        moved n seats s o id v w at live 0 x (omega arith) lawful
            (beside_touched 0 x v v' refl refl refl refl refl refl (cpus-map f (λ u. refl) v.own) (λ p _. same_words p) (λ p _. same_counts p) (λ p _ y h. h) (λ p _. ((λ k. refl), refl)))
            (here_board n id s.views x x w o.board.word mine (λ k u _ _ _ h. h) (λ _ _ _ h _. h)),
        record { view = refl; number = o.board.word; later = later; driver = b.driver },
      )

  -- the view by itself, after a step on i that leaves own lists
  touched_alone : (s : State ℕ View) (o : BoardRule n seats s) → get_elem? s.views id ≡ some m.0 → (i z : ℕ) → sight m.0 ≤ sight (touched i z m.0) → ViewAlone n (touched i z m.0)
  touched_alone s o at i z le = let v : View = m.0 in let t = o.alone id v at in
      alone_touched n v v i z t live refl refl refl refl refl
      (every (λ (u : Own). Every (λ (c : Accepted). c.stamp ≤ sight v) u.accepted) (λ (u : Own). Every (λ (c : Accepted). c.stamp ≤ sight (touched i z v)) u.accepted)
      (λ u. every (λ (c : Accepted). c.stamp ≤ sight v) (λ (c : Accepted). c.stamp ≤ sight (touched i z v)) (λ c h. omega arith) u.accepted) v.own t.stamps)
      (every (λ (c : Claim). c.sight ≤ sight v) (λ (c : Claim). c.sight ≤ sight (touched i z v)) (λ c h. omega arith) v.claims t.claims) t.running t.quiets

  touched_beside : (i z : ℕ) → OtherWords i m.0 (touched i z m.0)
  touched_beside i z = beside_touched i z m.0 m.0 refl refl refl refl refl refl refl (λ p _ y h. h) (λ q _ y h. h) (λ q _ y h. h) (λ q _. ((λ j. refl), refl))

  -- a step on Q_q of a seat that changes no own list
  pub plain_step : (q : ℕ) → q < n → (s : State ℕ View) (o : BoardRule n seats s) → get_elem? s.views id ≡ some m.0 → (y : ℕ) → ((N : ℕ) → BoardLaw N s.views → Accounted N (get_or s.words (reports_word q) 0) → Accounted N y)
      → period_of (get_or s.words (reports_word q) 0) ≤ period_of y
      → ((k : ℕ) (u : View) → get_elem? s.views k ≡ some u → ReportLawInView q (get_or s.words (reports_word q) 0) u → Every (λ (p : Own). p.cpu ≡ q → OwnLaw y p) u.own)
      → BoardRule n seats (after s (reports_word q) y id (touched (reports_word q) y m.0))
  plain_step q low s o at y law le owns = let i : ℕ = reports_word q in let x : ℕ = get_or s.words i 0 in let v : View = m.0 in let w : View = touched i y v in let t = o.alone id v at in
      let now : seen_at w i ≡ y = seen_here v i y (omega (arith, t.seen_long live)) in
      let first : sight w ≡ sight v = seen_else v i y 0 (λ e. omega arith) in
      moved n seats s o id v w at live i y (omega arith) (touched_alone s o at i y (omega arith)) (touched_beside i y)
      (here_reports n id s.views x y w q law
      record { below = omega (arith, ap period_of now); own = owns id v at (o.report q low id v at) }
      (λ k u _ there _ h. record { below = let b = h.below in omega arith; own = owns k u there h }))

  -- the driver's store
  module _ (drives_it : m.0.drives ≡ true) (seq : ℕ) (at_seq : sight m.0 ≡ seq) where
    other_drives : (s : State ℕ View) (o : BoardRule n seats s) → get_elem? s.views id ≡ some m.0 → (k : ℕ) (u : View) → k ≢ id → get_elem? s.views k ≡ some u → u.drives ≡ true → ⊥
    other_drives s o at k u ne there d = let e = two_of driver_count s.views id k m.0 u (λ z. ne (sym z)) at there in
        let f : driver_count m.0 ≡ 1 = ap (λ (z : Bool). cond z 1 0) drives_it in let g : driver_count u ≡ 1 = ap (λ (z : Bool). cond z 1 0) d in let one = o.seats.driver in omega arith

    drive : (s : State ℕ View) (o : BoardRule n seats s) → get_elem? s.views id ≡ some m.0 → (y : ℕ) → IsNumber y → seq ≤ y
        → ((p z : ℕ) → p < n → Accounted (get_or s.words 0 0) z → Each s.views (ReportLawInView p z) → Accounted y z) → BoardRule n seats (after s 0 y id (touched 0 y m.0))
    drive s o at y is le law = let x : ℕ = get_or s.words 0 0 in let v : View = m.0 in let w : View = touched 0 y v in let t = o.alone id v at in
        let now : sight w ≡ y = seen_here v 0 y (omega (arith, t.seen_long live)) in
        let lead : sight v ≡ x = (o.board.in_views id v at).driver drives_it in
        moved n seats s o id v w at live 0 y (omega arith) (touched_alone s o at 0 y (omega arith)) (touched_beside 0 y)
        (here_board n id s.views x y w is record { sight = omega arith; driver = λ _. now }
        (λ k u ne there _ h. record { sight = let b = h.sight in omega arith; driver = λ d. absurd (other_drives s o at k u ne there d) }) law)

    pub start_allowed : seq % 4 ≡ 0 → seq < 4611686018427387900 → Allows (BoardRule n seats) slots id m 0 (λ _. seq + 1) (λ _. Driving (step slots 0 (seq + 1) 0 none) m (seq + 1))
    start_allowed idle small s o _ at _ = let x : ℕ = get_or s.words 0 0 in let lead : seq ≡ x = sym at_seq ∙ (o.board.in_views id m.0 at).driver drives_it in (
      touched 0 (seq + 1) m.0,
      keeps,
      tt,
      drive s o at (seq + 1) record { state = omega arith; small = omega arith } (omega arith) (λ p z _ h _. start_law seq z idle (subst (λ (k : ℕ). Accounted k z) (sym lead) h)),
      refl,
    )

    pub end_allowed : seq % 4 ≡ 1 → seq ≤ 4611686018427387900 → ((q : ℕ) → q < n → period_of (seen_at m.0 (reports_word q)) ≡ seq)
        → Allows (BoardRule n seats) slots id m 0 (λ _. seq + 3) (λ _. Driving (step slots 0 (seq + 3) 0 none) m (seq + 3))
    end_allowed busy small all s o _ at _ = let x : ℕ = get_or s.words 0 0 in let lead : seq ≡ x = sym at_seq ∙ (o.board.in_views id m.0 at).driver drives_it in (
      touched 0 (seq + 3) m.0,
      keeps,
      tt,
      drive s o at (seq + 3) record { state = omega arith; small = omega arith } (omega arith)
          (λ p z low h every_view. end_law seq z (period_of (seen_at m.0 (reports_word p))) busy (all p low) (every_view id m.0 at).below (subst (λ (k : ℕ). Accounted k z) (sym lead) h)),
      refl,
    )

    module _ (q : ℕ) (low : q < n) where
      pub sight_allowed : Allows (BoardRule n seats) slots id m (reports_word q) (λ y. y) (Sighting (step slots (reports_word q) 0 0 none) m)
      sight_allowed s o _ at _ = let i : ℕ = reports_word q in let x : ℕ = get_or s.words i 0 in
          let lead : sight m.0 ≡ get_or s.words 0 0 = (o.board.in_views id m.0 at).driver drives_it in (
            touched i x m.0,
            keeps,
            tt,
            plain_step q low s o at x (λ _ _ h. h) (omega arith) (λ k u _ h. h.own),
            record { view = refl; later = (o.report q low id m.0 at).below; law = subst (λ (k : ℕ). Accounted k x) (sym lead) (o.accounted q low) },
          )

      -- who is away, stays away
      met_own : (x y : ℕ) (p : Own) → x ≡ 2 * (x / 2) + 1 → y ≡ 2 * (y / 2) + 1 → x / 2 ≤ y / 2 → OwnLaw x p → OwnLaw y p
      met_own x y p odd_x odd_y le h = record { below = let b = h.below in omega arith; away = let a = h.away in omega arith; here = λ even. absurd (omega arith) }

      pub meet_allowed : (period : ℕ) → seq % 4 ≡ 1 → period < seq
          → Allows (BoardRule n seats) slots id m (reports_word q) (λ y. either (eqb y (2 * period + 1)) (2 * seq + 1) y) (Meeting (step slots (reports_word q) (2 * period + 1) (2 * seq + 1) none) m)
      meet_allowed period busy owes s o _ at _ = let i : ℕ = reports_word q in let x : ℕ = get_or s.words i 0 in let h = o.report q low id m.0 at in let y : ℕ = 2 * seq + 1 in
          let lead : sight m.0 ≡ get_or s.words 0 0 = (o.board.in_views id m.0 at).driver drives_it in
          let law : Accounted (sight m.0) x = subst (λ (k : ℕ). Accounted k x) (sym lead) (o.accounted q low) in
          exchanged x (2 * period + 1) y (λ z. (w : View) × (b : Act ℕ) × Valid s.homes m.1 b × BoardRule n seats (stepped s i z id m.1 w b) × Meeting (step slots i (2 * period + 1) y none) m x (w, carried_after m.1 b))
          (λ hit. (
            touched i y m.0,
            keeps,
            tt,
            plain_step q low s o at y (λ N every_view _. let e = (every_view.in_views id m.0 at).driver drives_it in counted_law N y (omega arith) (omega arith)) (omega arith)
                (λ k u _ t. every (λ (p : Own). p.cpu ≡ q → OwnLaw x p) (λ (p : Own). p.cpu ≡ q → OwnLaw y p) (λ p f e. met_own x y p (omega arith) (omega arith) (omega arith) (f e)) u.own t.own),
            record { won = λ _. refl; lost = λ miss. absurd (miss hit); later = h.below; law = law },
          ))
          (λ miss. (
            touched i x m.0,
            keeps,
            tt,
            plain_step q low s o at x (λ _ _ t. t) (omega arith) (λ k u _ t. t.own),
            record { won = λ hit. absurd (miss hit); lost = λ _. refl; later = h.below; law = law },
          ))

abbrev word_or : List Own → ℕ
word_or [] = 0
word_or (o ∷ os) = o.word

-- the steps of q itself
module _ (n seats slots id : ℕ) (m : SeatState) (live : 0 < m.0.weight) (q : ℕ) (low : q < n) (p : Own) (only : m.0.own ≡ p ∷ []) (is_q : p.cpu ≡ q) where
  own_one : own_count q m.0 ≡ 1
  own_one = ap (λ (l : List Own). total (one_if_equal q) (cpus l)) only ∙ (let e = at_same q p.cpu is_q in omega arith)

  -- what q knows of its word
  known : (s : State ℕ View) (o : BoardRule n seats s) → get_elem? s.views id ≡ some m.0 → OwnLaw (get_or s.words (reports_word q) 0) p
  known s o at = let x : ℕ = get_or s.words (reports_word q) 0 in the_one (λ (u : Own). u.cpu ≡ q → OwnLaw x u) p (subst (Every (λ (u : Own). u.cpu ≡ q → OwnLaw x u)) only (o.report q low id m.0 at).own) is_q

  quiets_of : (s : State ℕ View) (o : BoardRule n seats s) → get_elem? s.views id ≡ some m.0 → Chain 0 p.quiets (period_of p.word)
  quiets_of s o at = the_one (λ (u : Own). Chain 0 u.quiets (period_of u.word)) p (subst (Every (λ (u : Own). Chain 0 u.quiets (period_of u.word))) only (o.alone id m.0 at).quiets)

  -- q's step, which leaves y there, and changes its own list by f
  own_step : (f : ℕ → Own → Own) (s : State ℕ View) (o : BoardRule n seats s) → get_elem? s.views id ≡ some m.0 → (y : ℕ)
      → ((N : ℕ) → BoardLaw N s.views → Accounted N (get_or s.words (reports_word q) 0) → Accounted N y) → period_of (get_or s.words (reports_word q) 0) ≤ period_of y
      → (f y p).cpu ≡ p.cpu → (f y p).word ≡ y → (f y p).accepted ≡ p.accepted → (f y p).fresh ≡ p.fresh → Chain 0 (f y p).quiets (period_of y)
      → BoardRule n seats (after s (reports_word q) y id (stepped_own f (reports_word q) y m.0))
  own_step f s o at y law le same word accepted_same fresh_same chain = let i : ℕ = reports_word q in let x : ℕ = get_or s.words i 0 in let v : View = m.0 in let t = o.alone id v at in
      let v' : View = record v { own = map (f y) v.own } in let w : View = stepped_own f i y v in
      let now : seen_at w i ≡ y = seen_here v' i y (omega (arith, t.seen_long live)) in
      let first : sight w ≡ sight v = seen_else v' i y 0 (λ e. omega arith) in
      let all : (P : Own → Type 0) → P (f y p) → Every P v'.own = λ P h. subst (λ (l : List Own). Every P (map (f y) l)) (sym only) (every_one P (f y p) h) in
      let old : (P : Own → Type 0) → Every P v.own → P p = λ P h. the_one P p (subst (Every P) only h) in
      let cpu : cpus v'.own ≡ cpus v.own = ap (λ (l : List Own). cpus (map (f y) l)) only ∙ ap (λ (z : ℕ). z ∷ []) same ∙ sym (ap cpus only) in
      let count : accepted_count (f y p) ≡ accepted_count p = λ j. length (accepted_same j) + fresh_count (fresh_same j) in
      let stamps : Every (λ (u : Own). Every (λ (a : Accepted). a.stamp ≤ sight w) u.accepted) v'.own
      = all (λ (u : Own). Every (λ (a : Accepted). a.stamp ≤ sight w) u.accepted) (subst (Every (λ (a : Accepted). a.stamp ≤ sight w)) (sym accepted_same) (every (λ (a : Accepted). a.stamp ≤ sight v) (λ (a : Accepted). a.stamp ≤ sight w) (λ c h. omega arith) p.accepted (old (λ (u : Own). Every (λ (a : Accepted). a.stamp ≤ sight v) u.accepted) t.stamps))) in
      let lawful : ViewAlone n w = alone_touched n v v' i y t live refl refl refl refl cpu stamps
      (every (λ (c : Claim). c.sight ≤ sight v) (λ (c : Claim). c.sight ≤ sight w) (λ c h. omega arith) v.claims t.claims) t.running
      (all (λ (u : Own). Chain 0 u.quiets (period_of u.word)) (subst (λ (z : ℕ). Chain 0 (f y p).quiets (period_of z)) (sym word) chain)) in
      moved n seats s o id v w at live i y (omega arith) lawful
      (beside_touched i y v v' refl refl refl refl refl refl cpu
      (λ r away z _. all (λ (u : Own). u.cpu ≡ r → OwnLaw z u) (λ e. absurd (away (omega (arith, same, is_q)))))
      (λ r _ z h. all (λ (u : Own). u.cpu ≡ r → z / 2 ≡ accepted_count u) (λ e. old (λ (u : Own). u.cpu ≡ r → z / 2 ≡ accepted_count u) h (sym same ∙ e) ∙ sym count))
      (λ r _ z h. h) (λ r _. ((λ j. refl), refl)))
      (here_reports n id s.views x y w q law
      record { below = omega (arith, ap period_of now); own = all (λ (u : Own). u.cpu ≡ q → OwnLaw y u) (λ _. record { below = omega (arith, ap period_of word); away = ap away_of word; here = λ _. word }) }
      (λ k u ne there _ h. let e = two_of (own_count q) s.views id k v u (λ z. ne (sym z)) at there in let one = o.seats.processor q low in let mine = own_one in record { below = let b = h.below in omega arith; own = every_else q (OwnLaw y) u.own (omega arith) }))

  pub report_allowed : (seq : ℕ) → away_of p.word ≡ 0 → sight m.0 ≡ seq → seq % 4 ≡ 1 → period_of p.word < seq
      → Allows (BoardRule n seats) slots id m (reports_word q) (λ _. 2 * seq) (λ _. Reporting (step slots (reports_word q) (2 * seq) 0 none) m (2 * seq))
  report_allowed seq free at_seq busy owes s o _ at _ = let i : ℕ = reports_word q in let x : ℕ = get_or s.words i 0 in let k = known s o at in let same : p.word ≡ x = k.here (sym k.away ∙ free) in
      let b = (o.board.in_views id m.0 at).sight in let y : ℕ = 2 * seq in
      let t = owes_now (get_or s.words 0 0) x seq o.board.word (o.accounted q low) (omega arith) busy (omega arith) in
      let next : period_of p.word ≡ period_of y - 4 = omega (arith, t.1) in
      let x_new : Quiet = record { from = period_of p.word; to = period_of y; away = false } in (
        stepped_own report_own i y m.0,
        keeps,
        tt,
        own_step report_own s o at y
            (λ N every_view law. let le = (every_view.in_views id m.0 at).sight in let u = owes_now N x seq every_view.word law (omega arith) busy (omega arith) in counted_law N y (omega (arith, u.0)) (omega (arith, u.0)))
            (omega arith) refl refl refl refl
            (chain_more 0 (period_of p.word) p.quiets x_new (quiets_of s o at) refl record { grows = omega arith; reported = λ _. (next, omega arith) }),
        record { view = refl; next = λ u e. ap (λ (l : List Own). period_of (word_or l)) (sym e ∙ only) ∙ next; later = let c = (o.report q low id m.0 at).below in omega (arith, t.0) },
      )

  pub leave_allowed : (period : ℕ) → p.word ≡ 2 * period
      → Allows (BoardRule n seats) slots id m (reports_word q) (λ _. 2 * period + 1) (λ _. Leaving (step slots (reports_word q) (2 * period + 1) 0 none) m (2 * period + 1))
  leave_allowed period is s o _ at _ = let i : ℕ = reports_word q in let x : ℕ = get_or s.words i 0 in let k = known s o at in let a = k.away in let same : p.word ≡ x = k.here (omega arith) in
      let y : ℕ = 2 * period + 1 in let half : period_of p.word ≡ period_of y = omega arith in (
        stepped_own leave_own i y m.0,
        keeps,
        tt,
        own_step leave_own s o at y (λ N _ law. same_period N x y (omega arith) law) (omega arith) refl refl refl refl
            (subst (Chain 0 p.quiets) half (quiets_of s o at)),
        record { view = refl; later = let c = (o.report q low id m.0 at).below in omega arith },
      )

  pub return_allowed : away_of p.word ≡ 1
      → Allows (BoardRule n seats) slots id m (reports_word q) (λ y. (y + (2 ^ 64 - 1)) % 2 ^ 64) (Returning (step slots (reports_word q) 1 0 none) m)
  return_allowed is s o _ at small = let i : ℕ = reports_word q in let x : ℕ = get_or s.words i 0 in let k = known s o at in let le = k.below in
      let odd : away_of x ≡ 1 = sym k.away ∙ is in
      let y : ℕ = x - 1 in
      let fits : y ≡ (x + 18446744073709551615) % 18446744073709551616 = omega arith in
      let x_new : Quiet = record { from = period_of p.word; to = period_of y; away = true } in (
        stepped_own return_own i y m.0,
        keeps,
        tt,
        subst (λ (z : ℕ). BoardRule n seats (after s i z id (stepped_own return_own i y m.0))) fits (own_step return_own s o at y (λ N _ law. same_period N x y (omega arith) law) (omega arith) refl refl refl refl
            (chain_more 0 (period_of p.word) p.quiets x_new (quiets_of s o at) refl record { grows = omega arith; reported = λ e. absurd (no_true (sym e)) })),
        record { view = refl; away = odd; small = small_period (get_or s.words 0 0) x o.board.word (o.accounted q low); later = (let c = (o.report q low id m.0 at).below in omega arith); grows = λ u e. let g = ap (λ (l : List Own). period_of (word_or l)) (sym e ∙ only) in omega arith },
      )
