-- What is true of slots stays true where each has what it had.
use Rattle.std.proofs.Common.{◌≡◌, ◌⊎◌, Result, Ok, Err, IfErr, IfOk, sym, ap, ◌∙◌, subst}
use mathlib.Core.Logic.{inl, inr}
use Rattle.rcu_c_slots.specs.Gathers.{AreHeld, AreInPlace, AreOfTheOpen, CanTryClose, Closes, ClosesAgain, ForeignParts, HasKind, IsAllThere, IsOfOpen, IsThere, RefusesClose, StayHeld, parts_of}
use Rattle.rcu_c_slots.specs.Refusals.{IsWhyNotClosed, RefusesFirst, RefusesOwn}
use Rattle.rcu_c_slots.specs.declared.fault.Fault.{Fault}
use Rattle.rcu_c_slots.specs.declared.part.Opening.{Opening}
use Rattle.rcu_c_slots.specs.declared.part.PartKind.{PartKind}
use Rattle.rcu_c_slots.specs.declared.part.PartKind.TheVariants as kind
use Rattle.rcu_c_slots.specs.declared.slot.PartSlots.{PartSlots}
use Rattle.rcu_c_slots.specs.declared.slot.Slot.{Slot}

module _ {old new : PartSlots} (s : StayHeld old new) where
  pub held_back : {o : Opening} {parts : ForeignParts} → AreHeld o parts new → AreHeld o parts old
  held_back {o} h = record {
    control_is = sym s.control_stays ∙ h.control_is;
    driver_is = sym s.driver_stays ∙ h.driver_is;
    processors_are = ap parts_of (sym s.processors_stay) ∙ h.processors_are;
    groups_are = ap parts_of (sym s.groups_stay) ∙ h.groups_are;
    hands_are = ap parts_of (sym s.hands_stay) ∙ h.hands_are;
    processors_at = subst (λ hs. AreInPlace o 0 hs) s.processors_stay h.processors_at;
    groups_at = subst (λ hs. AreInPlace o 0 hs) s.groups_stay h.groups_at;
    hands_at = subst (λ hs. AreInPlace o 0 hs) s.hands_stay h.hands_at;
    many_processors = h.many_processors;
    many_groups = h.many_groups;
    many_hands = h.many_hands;
  }

  pub owed_still : AreOfTheOpen old → AreOfTheOpen new
  owed_still a = record {
    first = λ o parts h. a.first o parts (held_back h);
    again = λ l closing is part. a.again l closing (sym s.control_stays ∙ is) part;
  }

  pub closes_from_old : {result : Result (Unit {0}) Fault} {last : PartSlots} → Closes result new last ⊎ RefusesClose result new last → Closes result old last ⊎ RefusesClose result old last
  closes_from_old (inl c) = inl (record { opening = c.opening; parts = c.parts; held = held_back c.held; emptied = c.emptied; comes_to = c.comes_to })
  closes_from_old (inr r) = inr (
    r.0,
    record {
      control_stays = r.1.control_stays ∙ s.control_stays;
      driver_stays = r.1.driver_stays ∙ s.driver_stays;
      processors_stay = r.1.processors_stay ∙ s.processors_stay;
      groups_stay = r.1.groups_stay ∙ s.groups_stay;
      hands_stay = r.1.hands_stay ∙ s.hands_stay;
    },
  )

pub closes_again_from : {old new last : Slot} {result : Result (Unit {0}) Fault} → new.held.part.value ≡ old.held.part.value → ClosesAgain result new last → ClosesAgain result old last
closes_again_from stays c = record { closing = c.closing; had = (c.had.0, sym stays ∙ c.had.1, c.had.2); comes_to = c.comes_to }

-- ---- why a close isn't made, by what was seen once control's slot was looked at

refuses_own_from : {o : Opening} {kind : PartKind} {fault : Fault} (old new : Slot) → new.held.part.value ≡ old.held.part.value → new.reading ≡ old.reading → RefusesOwn o kind fault new → RefusesOwn o kind fault old
refuses_own_from old new stays reads (inl (inl r)) = inl (inl (r.0, λ e. r.1 (reads ∙ e)))
refuses_own_from old new stays reads (inl (inr r)) = inl (inr (r.0, sym stays ∙ r.1, r.2))
refuses_own_from old new stays reads (inr e) = inr (e.0, sym stays ∙ e.1)

abbrev pub seen : PartSlots → Slot → PartSlots
seen slots control = record { control = control; driver = slots.driver; processors = slots.processors; groups = slots.groups; hands = slots.hands }

module _ (o : Opening) (slots : PartSlots) (control : Slot) (stays : control.held.part.value ≡ slots.control.held.part.value) (reads : control.reading ≡ slots.control.reading) where
  there_from : IsAllThere o (seen slots control) → IsAllThere o slots
  there_from t = record {
    ready = record {
      control_is = subst (λ held. IsThere o kind.Control held) stays t.ready.control_is;
      driver_is = t.ready.driver_is;
      processors_are = t.ready.processors_are;
      groups_are = t.ready.groups_are;
      hands_are = t.ready.hands_are;
    };
    control_unread = sym reads ∙ t.control_unread;
    driver_unread = t.driver_unread;
    processors_unread = t.processors_unread;
    groups_unread = t.groups_unread;
    hands_unread = t.hands_unread;
  }

  pub can_try_from : (result : Result (Unit {0}) Fault) → IfOk result (λ _. IsAllThere o (seen slots control)) → IfOk result (λ _. CanTryClose slots)
  can_try_from (Ok done) t = inl (o, there_from t)
  can_try_from (Err fault) t = tt

  why_first : (fault : Fault) → IsOfOpen o kind.Control slots.control.held.part.value → RefusesFirst o fault (seen slots control) → IsWhyNotClosed fault slots
  why_first fault of (inl (inl own)) = inr (inl (o, of, inl (refuses_own_from slots.control control stays reads own)))
  why_first fault of (inl (inr rest)) = inr (inl (o, of, inr rest))
  why_first fault of (inr m) = inr (inr (m.0, inl (o, there_from m.1)))

  pub why_from : (result : Result (Unit {0}) Fault) → IsOfOpen o kind.Control slots.control.held.part.value → IfErr result (λ fault. RefusesFirst o fault (seen slots control)) → IfErr result (λ fault. IsWhyNotClosed fault slots)
  why_from (Ok done) of r = tt
  why_from (Err fault) of r = why_first fault of r

pub can_try_again : (slots : PartSlots) (result : Result (Unit {0}) Fault) → HasKind kind.Closing slots.control.held.part.value → IfOk result (λ _. CanTryClose slots)
can_try_again slots (Ok done) had = inr had
can_try_again slots (Err fault) had = tt

pub why_again : (slots : PartSlots) {old new : Slot} (result : Result (Unit {0}) Fault) → HasKind kind.Closing slots.control.held.part.value → ClosesAgain result old new → IfErr result (λ fault. IsWhyNotClosed fault slots)
why_again slots (Ok done) had c = tt
why_again slots (Err fault) had c = inr (inr (c.comes_to.0, inr had))
