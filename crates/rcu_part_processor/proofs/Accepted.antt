-- Reports and ticks leave what was accepted as it is.
use Rattle.std.proofs.Common.{◌≡◌, ℕ, ◌*◌, Bool, true, false, Option, Some, None, List, [], ◌∷◌, ap, ◌∙◌, refl}
use Rattle.rcu_board.proofs.Facts.{accepted-kept}
use Rattle.rcu_board.specs.Plays.{looked}
use Rattle.rcu_board.specs.Seats.{accepted_of, first_accepted}
use Rattle.rcu_board.specs.declared.view.View.{View}
use Rattle.rcu_board.specs.declared.view.Own.{Own}
use Rattle.rcu_board.specs.Plays.{report_own}
use Rattle.std.specs.Prelude.{map}
use Rattle.rcu_jobs.specs.Modes.{is_deoffloading}
use Rattle.rcu_jobs.specs.declared.Ticked.{Ticked}
use Rattle.rcu_part_steps.specs.Reports.{Reports}
use Rattle.rcu_part_processor.specs.Processors.{AcceptedStays, lists_of, view_of}
use Rattle.rcu_part_processor.specs.Ticks.{Asks, CatchesUp, Settles, TicksBy}
use Rattle.rcu_part_processor.specs.declared.processor.ProcessorState.{ProcessorState}

reported_own : (r : ℕ) (os : List Own) → first_accepted (map (report_own r) os) ≡ first_accepted os
reported_own r [] = refl
reported_own r (o ∷ os) = refl

asked_keeps : (wanted : Option ℕ) (v w : View) → Asks wanted v w → accepted_of w ≡ accepted_of v
asked_keeps (Some s) v w a = ap accepted_of (a.some s refl)
asked_keeps None v w a = ap accepted_of (a.none refl)

module _ {J R : Type 0} where
  pub accepted_told : (counted : Option ℕ) (p q : ProcessorState J R) → Reports p.cpu counted (view_of p) (view_of q) → AcceptedStays p q
  accepted_told (Some s) p q r = ap accepted_of r.step ∙ (reported_own (2 * s) (looked s (view_of p)).own ∙ accepted-kept (view_of p) s p.lawful.stamped)
  accepted_told None p q r = ap accepted_of r.step ∙ accepted-kept (view_of p) r.number p.lawful.stamped

  accepted_caught : (seen : ℕ) (p q : ProcessorState J R) → CatchesUp seen p q → AcceptedStays p q
  accepted_caught seen p q h = asked_keeps _ (looked seen (view_of p)) (view_of q) h.asks ∙ accepted-kept (view_of p) seen p.lawful.stamped

  accepted_settled : (leaving : Bool) (p q : ProcessorState J R) → is_deoffloading (lists_of p).mode ≡ leaving → Settles p q → AcceptedStays p q
  accepted_settled true p q is h = ap accepted_of (h.leaving is).0
  accepted_settled false p q is h = ap accepted_of (h.others is).0

  pub accepted_ticked : (moment : ℕ) (answer : Ticked) (p q : ProcessorState J R) → TicksBy moment answer p q → AcceptedStays p q
  accepted_ticked moment answer p q t = ap first_accepted t.ran.steps.own ∙ before p.offloadable refl where
    before : (on : Bool) → p.offloadable ≡ on → AcceptedStays p t.third
    before true is = accepted_settled (is_deoffloading (lists_of t.second).mode) t.second t.third refl (t.settles is) ∙ (ap accepted_of (t.heeds is).steps ∙ accepted_caught t.seen p t.first t.catches_up)
    before false is = let e = t.local is in ap (λ (x : ProcessorState J R). accepted_of (view_of x)) (e.1 ∙ e.0) ∙ accepted_caught t.seen p t.first t.catches_up
