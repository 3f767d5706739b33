-- What a close knows once it looked at all slots, by what it found in those of the hands, which come last.
use Rattle.std.proofs.Common.{◌≡◌, Result, Ok, Err, IfErr, IfOk, sym, subst}
use mathlib.Core.Logic.{inr}
use Rattle.rcu_c_slots.specs.Gathers.{AreChecked, AreReady, AreUnread, ComesTo, ForeignParts, IsAllThere, IsThere, StayHeld, held_in}
use Rattle.rcu_c_slots.specs.Refusals.{RefusesAll, RefusesEach, RefusesFirst}
use Rattle.rcu_c_slots.specs.declared.fault.Fault.{Fault}
use Rattle.rcu_c_slots.specs.declared.fault.Fault.TheVariants.{Memory}
use Rattle.rcu_c_slots.specs.declared.part.Opening.{Opening}
use Rattle.rcu_c_slots.specs.declared.part.PartKind.TheVariants as kind
use Rattle.rcu_c_slots.specs.declared.slot.PartSlots.{PartSlots}
use Rattle.rcu_c_slots.specs.declared.slot.Slot.{Slot}

abbrev Answer : Type 0
Answer = Result (Unit {0}) Fault

module _ (o : Opening) (old : PartSlots) where
  -- they are ready, and stay so where each has what it had
  pub ready_by : (new : PartSlots) (r : Answer) → StayHeld old new → IsThere o kind.Control old.control.held.part.value → IsThere o kind.Driver old.driver.held.part.value → AreChecked o kind.Processor o.processors (held_in old.processors)
      → AreChecked o kind.Group o.groups (held_in old.groups) → IfOk r (λ _. AreChecked o kind.Hand o.hands (held_in old.hands)) → IfOk r (λ _. AreReady o new)
  ready_by new (Ok done) s control driver processors groups hands = record {
    control_is = subst (λ h. IsThere o kind.Control h) (sym s.control_stays) control;
    driver_is = subst (λ h. IsThere o kind.Driver h) (sym s.driver_stays) driver;
    processors_are = subst (λ hs. AreChecked o kind.Processor o.processors hs) (sym s.processors_stay) processors;
    groups_are = subst (λ hs. AreChecked o kind.Group o.groups hs) (sym s.groups_stay) groups;
    hands_are = subst (λ hs. AreChecked o kind.Hand o.hands hs) (sym s.hands_stay) hands;
  }
  ready_by new (Err fault) s control driver processors groups hands = tt

  -- and no read section is open
  pub all_there_by : (r : Answer) → IfOk r (λ _. AreReady o old) → old.control.reading ≡ 0 → old.driver.reading ≡ 0 → AreUnread old.processors → AreUnread old.groups → IfOk r (λ _. AreUnread old.hands) → IfOk r (λ _. IsAllThere o old)
  all_there_by (Ok done) ready control driver processors groups hands = record { ready = ready; control_unread = control; driver_unread = driver; processors_unread = processors; groups_unread = groups; hands_unread = hands }
  all_there_by (Err fault) ready control driver processors groups hands = tt

  pub not_all_there_by : (r : Answer) → IfErr r (λ _. AreUnread old.hands → AreChecked o kind.Hand o.hands (held_in old.hands) → ⊥) → IfErr r (λ _. IsAllThere o old → ⊥)
  not_all_there_by (Ok done) not = tt
  not_all_there_by (Err fault) not = λ t. not t.hands_unread t.ready.hands_are

  pub refuses_by : (r : Answer) → IfErr r (λ fault. RefusesEach o kind.Hand o.hands fault old.hands) → IfErr r (λ fault. RefusesAll o fault old)
  refuses_by (Ok done) why = tt
  refuses_by (Err fault) why = inr (inr (inr (inr why)))

  -- where all is there, a close is refused for want of memory alone
  pub closes_there : (r : Answer) → IsAllThere o old → IfOk r (λ _. IsAllThere o old)
  closes_there (Ok done) t = t
  closes_there (Err fault) t = tt

  pub refuses_first : (parts : ForeignParts) (control : Slot) (r : Answer) → IsAllThere o old → ComesTo parts r control → IfErr r (λ fault. RefusesFirst o fault old)
  refuses_first parts control (Ok done) t c = tt
  refuses_first parts control (Err fault) t c = inr (c.0, t)

pub memory_alone : (parts : ForeignParts) (control : Slot) (r : Answer) → ComesTo parts r control → IfErr r (λ fault. fault ≡ Memory)
memory_alone parts control (Ok done) c = tt
memory_alone parts control (Err fault) c = c.0
