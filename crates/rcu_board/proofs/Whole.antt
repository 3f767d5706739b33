-- The seat that has taken in all others has all claims.
use Rattle.rcu_board.specs.Views.{one_if, own_count, driver_count, control_count, Every, total, sight, claimed, runs, spent}
use Rattle.rcu_board.specs.Laws.{BoardRule, ViewAlone, BoardLawInView, Accounted, OwnLaw}
use Rattle.rcu_board.specs.Quiets.{Chain}
use Rattle.rcu_board.specs.Words.{accepts_word, turns_word, reports_word, period_of, away_of, cpu_of}
use Rattle.rcu_board.specs.Plays.{SeatState, touched, LastTurning, LastLooking, LastCounting, LastSighting, PassedBy, GatheredTurnLaw, GatheredAcceptLaw, GatheredReportLaw, all_seats}
use Rattle.std.proofs.Common.{◌≡◌, ℕ, zero, suc, ◌+◌, ◌-◌, ◌*◌, ◌/◌, ◌%◌, ◌<◌, ◌≤◌, ◌⊎◌, inl, inr, Bool, true, false, List, [], ◌∷◌, length, get_or, sym, refl, ap, ◌∙◌, subst, arith}
use mathlib.Core.Option.{some, none, some-injective, some-ne-none}
use mathlib.Core.Logic.{dite}
use native.Mathlib.Decide.{dec_le, ℕ_discrete}
use lib.ListN.{get_elem?}
use Rattle.atomic_table.specs.Table.{step, keeps, Allows}
use Rattle.rcu_board.specs.declared.view.Own.{Own}
use Rattle.rcu_board.specs.declared.view.Claim.{Claim}
use Rattle.rcu_board.specs.declared.view.Accepted.{Accepted}
use Rattle.rcu_board.proofs.Moved.{moved}
use Rattle.rcu_board.proofs.BoardSteps.{seen_here, alone_touched, beside_touched, here_board, plain_step}
use Rattle.rcu_board.proofs.Chains.{chain_passes}
use Rattle.rcu_board.specs.declared.view.View.{View}
use Rattle.rcu_board.proofs.Views.{every, term_le}
use Rattle.rcu_board.proofs.WordSteps.{loaded}
use Rattle.rcu_board.proofs.Turns.{turn_counts}

abbrev weight_of : View → ℕ
weight_of v = v.weight

abbrev Idle : List View → Type 0
Idle views = (id : ℕ) (u : View) → get_elem? views id ≡ some u → u.weight ≡ 0 → u ≡ spent

nothing : (f : View → ℕ) → f spent ≡ 0 → (views : List View) → Idle views → total weight_of views ≡ 0 → total f views ≡ 0
nothing f none_left [] idle e = refl
nothing f none_left (x ∷ xs) idle e = let a : f x ≡ 0 = ap f (idle 0 x refl (omega arith)) ∙ none_left in let b = nothing f none_left xs (λ i. idle (suc i)) (omega arith) in omega arith

term_at : (l : List View) (i : ℕ) (v : View) → get_elem? l i ≡ some v → v.weight ≤ total weight_of l
term_at l i v e = term_le weight_of l i v e

pub whole : (f : View → ℕ) → f spent ≡ 0 → (views : List View) (id : ℕ) (v : View) → get_elem? views id ≡ some v → Idle views → total weight_of views ≡ v.weight → total f views ≡ f v
whole f none_left [] id v e idle w = absurd (some-ne-none v (sym e))
whole f none_left (x ∷ xs) zero v e idle w = let is : f x ≡ f v = ap f (some-injective x v e) in let heavy : x.weight ≡ v.weight = ap weight_of (some-injective x v e) in
    let b = nothing f none_left xs (λ i. idle (suc i)) (omega arith) in omega arith
whole f none_left (x ∷ xs) (suc id) v e idle w = let heavy = term_at xs id v e in let a : f x ≡ 0 = ap f (idle 0 x refl (omega arith)) ∙ none_left in
    let b = whole f none_left xs id v e (λ i. idle (suc i)) (omega arith) in omega arith

flagged : (b : Bool) → one_if b ≡ 1 → b ≡ true
flagged true e = refl
flagged false e = absurd (omega (arith, e))

module _ (n slots id : ℕ) (m : SeatState) (live : 0 < m.0.weight) where
  pub last_turn_allowed : (p : ℕ) → p < n → Allows (BoardRule n all_seats) slots id m (turns_word p) (λ y. y) (LastTurning (step slots (turns_word p) 0 0 none) m)
  last_turn_allowed p low s k _ at _ = let i : ℕ = turns_word p in let x : ℕ = get_or s.words i 0 in let same : p ≡ cpu_of i = omega arith in (
    touched i x m.0,
    keeps,
    tt,
    loaded n all_seats s k id m.0 at live i (λ e. omega arith) (omega arith),
    record {
      view = refl;
      later = ((k.turn p low).in_views id m.0 at).sight;
      settled = λ heavy.
          let idle : Idle s.views = λ j u e. (k.alone j u e).no_seat in let t = turn_counts _ _ _ (k.turn p low) in let w = k.seats.weight in
          let all : (f : View → ℕ) → f spent ≡ 0 → total f s.views ≡ f m.0 = λ f z. whole f z s.views id m.0 at idle (w ∙ sym heavy) in
          subst (λ (q : ℕ). GatheredTurnLaw q x m.0) same (record { claims = λ j. sym (all (claimed p j) refl) ∙ t.once j; runs = sym (all (runs p) refl) ∙ t.one });
    },
  )

  pub last_count_allowed : (p : ℕ) → p < n → Allows (BoardRule n all_seats) slots id m (accepts_word p) (λ y. y) (LastCounting (step slots (accepts_word p) 0 0 none) m)
  last_count_allowed p low s k _ at _ = let i : ℕ = accepts_word p in let x : ℕ = get_or s.words i 0 in let same : p ≡ cpu_of i = omega arith in let a = k.accept p low id m.0 at in (
    touched i x m.0,
    keeps,
    tt,
    loaded n all_seats s k id m.0 at live i (λ e. omega arith) (omega arith),
    record {
      view = refl;
      later = a.sight;
      counted = λ heavy.
          let idle : Idle s.views = λ j u e. (k.alone j u e).no_seat in let w = k.seats.weight in
          let all : (f : View → ℕ) → f spent ≡ 0 → total f s.views ≡ f m.0 = λ f z. whole f z s.views id m.0 at idle (w ∙ sym heavy) in
          let commanding : m.0.controls ≡ true = flagged m.0.controls (sym (all control_count refl) ∙ k.seats.control) in
          subst (λ (q : ℕ). GatheredAcceptLaw q x m.0) same (record { once = sym (all (own_count p) refl) ∙ k.seats.processor p low; counts = a.count; shut = a.shut commanding; final = a.odd_sight; merged = a.merged });
    },
  )

module _ (n seats slots id : ℕ) (m : SeatState) (live : 0 < m.0.weight) where
  pub last_look_allowed : Allows (BoardRule n seats) slots id m 0 (λ y. y) (LastLooking (step slots 0 0 0 none) m)
  last_look_allowed s k _ at _ = let x : ℕ = get_or s.words 0 0 in let v : View = m.0 in let w : View = touched 0 x v in
      let t = k.alone id v at in let b = k.board.in_views id v at in
      let long : 0 < length v.seen = omega (arith, t.seen_long live) in
      let now : sight w ≡ x = seen_here v 0 x long in
      let later : sight v ≤ x = b.sight in
      let lawful : ViewAlone n w = alone_touched n v v 0 x t live refl refl refl refl refl
      (every (λ (u : Own). Every (λ (a : Accepted). a.stamp ≤ sight v) u.accepted) (λ (u : Own). Every (λ (a : Accepted). a.stamp ≤ sight w) u.accepted)
      (λ u. every (λ (a : Accepted). a.stamp ≤ sight v) (λ (a : Accepted). a.stamp ≤ sight w) (λ c h. omega arith) u.accepted) v.own t.stamps)
      (every (λ (c : Claim). c.sight ≤ sight v) (λ (c : Claim). c.sight ≤ sight w) (λ c h. omega arith) v.claims t.claims) t.running t.quiets in
      let mine : BoardLawInView x w = record { sight = omega arith; driver = λ _. now } in (
        w,
        keeps,
        tt,
        moved n seats s k id v w at live 0 x (omega arith) lawful
            (beside_touched 0 x v v refl refl refl refl refl refl refl (λ p _ y h. h) (λ p _ y h. h) (λ p _ y h. h) (λ p _. ((λ k. refl), refl)))
            (here_board n id s.views x x w k.board.word mine (λ k u _ _ _ h. h) (λ _ _ _ h _. h)),
        record {
          view = refl;
          later = later;
          now = now;
          stands = record {
            board = k.board.word;
            stamps = every (λ (u : Own). Every (λ (a : Accepted). a.stamp ≤ sight v) u.accepted) (λ (u : Own). Every (λ (a : Accepted). a.stamp ≤ x) u.accepted)
                (λ u. every (λ (a : Accepted). a.stamp ≤ sight v) (λ (a : Accepted). a.stamp ≤ x) (λ c h. omega arith) u.accepted) v.own t.stamps;
            sights = every (λ (c : Claim). c.sight ≤ sight v) (λ (c : Claim). c.sight ≤ x) (λ c h. omega arith) v.claims t.claims;
          };
        },
      )

every_and : (P Q R : Own → Type 0) → ((o : Own) → P o → Q o → R o) → (l : List Own) → Every P l → Every Q l → Every R l
unfolding Every
every_and P Q R f [] h k = tt
every_and P Q R f (x ∷ xs) h k = (f x h.0 k.0, every_and P Q R f xs h.1 k.1)

-- how a processor passed a grace period that it was accounted for in
passed_by : (x : ℕ) (o : Own) → OwnLaw x o → Chain 0 o.quiets (period_of o.word) → (s : ℕ) → s % 4 ≡ 1 → s ≤ period_of x → PassedBy s o
passed_by x o h c s busy le = dite (dec_le s (period_of o.word))
    (λ known. inl (chain_passes 0 (period_of o.word) s o.quiets c (omega arith) known busy))
    (λ later. inr (
      (let a = h.away in dite (ℕ_discrete (away_of x) 0) (λ even. let e = ap period_of (h.here even) in absurd (omega arith)) (λ odd. omega arith)),
      omega arith,
    ))

ended_by : (s x : ℕ) → Accounted s x → s % 4 < 2 → (r : ℕ) → r % 4 ≡ 1 → r < s → r ≤ period_of x
ended_by s x a st r busy less = dite (ℕ_discrete (s % 4) 0) (λ idle. let i = a.idle idle in omega arith) (λ ne. let b = a.busy (omega arith) in omega (arith, b.1, b.2))

module _ (n slots id : ℕ) (m : SeatState) (live : 0 < m.0.weight) where
  pub last_report_allowed : (p : ℕ) → p < n → Allows (BoardRule n all_seats) slots id m (reports_word p) (λ y. y) (LastSighting (step slots (reports_word p) 0 0 none) m)
  last_report_allowed p low s k _ at _ = let i : ℕ = reports_word p in let x : ℕ = get_or s.words i 0 in let t = k.alone id m.0 at in let same : p ≡ cpu_of i = omega arith in (
    touched i x m.0,
    keeps,
    tt,
    plain_step n all_seats slots id m live p low s k at x (λ _ _ h. h) (omega arith) (λ _ u _ h. h.own),
    record {
      view = refl;
      later = (k.report p low id m.0 at).below;
      settled = λ heavy.
          let idle : Idle s.views = λ j u e. (k.alone j u e).no_seat in
          let all : (f : View → ℕ) → f spent ≡ 0 → total f s.views ≡ f m.0 = λ f z. whole f z s.views id m.0 at idle (k.seats.weight ∙ sym heavy) in
          let drives : m.0.drives ≡ true = flagged m.0.drives (sym (all driver_count refl) ∙ k.seats.driver) in
          let lead : sight m.0 ≡ get_or s.words 0 0 = (k.board.in_views id m.0 at).driver drives in
          let law : Accounted (sight m.0) x = subst (λ (z : ℕ). Accounted z x) (sym lead) (k.accounted p low) in
          let st = k.board.word.state in
          subst (λ (z : ℕ). GatheredReportLaw z x m.0) same record {
            once = sym (all (own_count p) refl) ∙ k.seats.processor p low;
            passed = every_and (λ (o : Own). Chain 0 o.quiets (period_of o.word)) (λ (o : Own). o.cpu ≡ p → OwnLaw x o) (λ (o : Own). o.cpu ≡ p → (s : ℕ) → s % 4 ≡ 1 → s ≤ period_of x → PassedBy s o)
                (λ o c h e r busy le. passed_by x o (h e) c r busy le) m.0.own t.quiets (k.report p low id m.0 at).own;
            here = every (λ (o : Own). o.cpu ≡ p → OwnLaw x o) (λ (o : Own). o.cpu ≡ p → away_of o.word ≡ 0 → o.word ≡ x)
                (λ o h e here. (h e).here (sym (h e).away ∙ here)) m.0.own (k.report p low id m.0 at).own;
            ended = ended_by (sight m.0) x law (omega arith);
            accounted = law;
          };
    },
  )
