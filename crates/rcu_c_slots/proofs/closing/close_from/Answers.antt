use Rattle.std.proofs.Common.{◌≡◌, ◌∙◌, sym, refl}
use mathlib.Core.Logic.{inl, inr}
use Rattle.rcu_c_slots.specs.Gathers.{StayHeld}
use Rattle.rcu_c_slots.specs.declared.slot.PartSlots.{PartSlots}
use Rattle.rcu_c_slots.specs.declared.slot.Slot.{Slot}
use Rattle.rcu_c_slots.proofs.Closings.{can_try_again, can_try_from, closes_again_from, closes_from_old, owed_still, why_again, why_from}
use Rattle.rcu_c_slots.proofs.closing.close_from.Goals as goal

-- control's slot was looked at
looked_at : (slots : PartSlots) (control : Slot) → control.held.part.value ≡ slots.control.held.part.value
    → StayHeld slots (record { control = control; driver = slots.driver; processors = slots.processors; groups = slots.groups; hands = slots.hands })
looked_at slots control stays = record { control_stays = stays; driver_stays = refl; processors_stay = refl; groups_stay = refl; hands_stay = refl }

pub close_kept-requires-clause-kind : goal.close_kept-requires-clause-kind
close_kept-requires-clause-kind c = let s = c.in-Some.ensures.some in (s.0, c.peek.ensures.stays.held ∙ s.1, s.3 ∙ c.in-Closing.is)

pub close_kept-requires-clause-owed : goal.close_kept-requires-clause-owed
close_kept-requires-clause-owed c = λ l closing is part. c.requires.owed.again l closing (sym c.peek.ensures.stays.held ∙ is) part

pub close_first-requires : goal.close_first-requires
close_first-requires c = record { owed = owed_still (looked_at c.args.slots.now c.peek.new.self c.peek.ensures.stays.held) c.requires.owed }

pub returns-in-Closing-clause-closes : goal.returns-in-Closing-clause-closes
returns-in-Closing-clause-closes c = inr (inl (closes_again_from c.peek.ensures.stays.held c.close_kept.ensures.closes))

pub returns-in-Control-clause-closes : goal.returns-in-Control-clause-closes
returns-in-Control-clause-closes c = elim (closes_from_old (looked_at c.args.slots.now c.peek.new.self c.peek.ensures.stays.held) c.close_first.ensures.closes.closes) [
  | inl x ↦ inl x
  | inr y ↦ inr (inr y)
]

pub returns-in-Closing-clause-there : goal.returns-in-Closing-clause-there
returns-in-Closing-clause-there c = let s = c.in-Some.ensures.some in can_try_again c.args.slots.now c.close_kept.result (s.0, s.1, s.3 ∙ c.in-Closing.is)

pub returns-in-Closing-clause-why : goal.returns-in-Closing-clause-why
returns-in-Closing-clause-why c = let s = c.in-Some.ensures.some in why_again c.args.slots.now c.close_kept.result (s.0, s.1, s.3 ∙ c.in-Closing.is) c.close_kept.ensures.closes

pub returns-in-Control-clause-there : goal.returns-in-Control-clause-there
returns-in-Control-clause-there c = can_try_from c.in-Some.opening c.args.slots.now c.peek.new.self c.peek.ensures.stays.held c.peek.ensures.stays.reading c.close_first.result c.close_first.ensures.there

pub returns-in-Control-clause-why : goal.returns-in-Control-clause-why
returns-in-Control-clause-why c = let s = c.in-Some.ensures.some in
    why_from c.in-Some.opening c.args.slots.now c.peek.new.self c.peek.ensures.stays.held c.peek.ensures.stays.reading c.close_first.result (s.0, s.1, s.2, s.3 ∙ c.in-Control.is) c.close_first.ensures.why

pub returns-in-Closing-clause-sections : goal.returns-in-Closing-clause-sections
returns-in-Closing-clause-sections c =
    record { control_stays = c.close_kept.ensures.reading ∙ c.peek.ensures.stays.reading; driver_stays = refl; processors_stay = refl; groups_stay = refl; hands_stay = refl }

pub returns-in-Control-clause-sections : goal.returns-in-Control-clause-sections
returns-in-Control-clause-sections c = let s = c.close_first.ensures.closes.sections in
    record { control_stays = s.control_stays ∙ c.peek.ensures.stays.reading; driver_stays = s.driver_stays; processors_stay = s.processors_stay; groups_stay = s.groups_stay; hands_stay = s.hands_stay }
