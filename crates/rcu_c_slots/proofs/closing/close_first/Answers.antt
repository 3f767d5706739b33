use Rattle.std.proofs.Common.{refl, ◌∙◌}
use mathlib.Core.Logic.{inl, inr}
use Rattle.rcu_c_slots.proofs.Closings.{held_back}
use Rattle.rcu_c_slots.proofs.Ready.{closes_there, memory_alone, refuses_first}
use Rattle.rcu_c_slots.proofs.closing.close_first.Goals as goal

pub close_parts-requires-clause-owed : goal.close_parts-requires-clause-owed
close_parts-requires-clause-owed c = c.requires.owed.first c.args.opening c.take_all-parts.result (held_back c.check_all.ensures.stay.held c.take_all-parts.ensures.held)

pub returns-in-Err-clause-why : goal.returns-in-Err-clause-why
returns-in-Err-clause-why c = inl c.in-Err.ensures.why

pub returns-in-Err-clause-memory : goal.returns-in-Err-clause-memory
returns-in-Err-clause-memory c = λ there. absurd (c.in-Err.ensures.err there)

pub returns-in_default-find_room-clause-memory : goal.returns-in_default-find_room-clause-memory
returns-in_default-find_room-clause-memory c = λ there. refl

pub returns-in_default-find_room-clause-why : goal.returns-in_default-find_room-clause-why
returns-in_default-find_room-clause-why c = inr (refl, c.in_default.ensures.there)

pub take_all-parts-requires-clause-ready : goal.take_all-parts-requires-clause-ready
take_all-parts-requires-clause-ready c = c.in_default.ensures.ready

pub take_all-parts-requires-clause-none : goal.take_all-parts-requires-clause-none
take_all-parts-requires-clause-none c = c.in-Ok.ensures.none

pub take_all-parts-requires-clause-processors : goal.take_all-parts-requires-clause-processors
take_all-parts-requires-clause-processors c = c.in-Ok.ensures.processors

pub take_all-parts-requires-clause-groups : goal.take_all-parts-requires-clause-groups
take_all-parts-requires-clause-groups c = c.in-Ok.ensures.groups

pub take_all-parts-requires-clause-hands : goal.take_all-parts-requires-clause-hands
take_all-parts-requires-clause-hands c = c.in-Ok.ensures.hands

pub close_parts-requires-clause-there : goal.close_parts-requires-clause-there
close_parts-requires-clause-there c = let kept = c.take_all-parts.ensures.emptied.control in (_, kept.2, refl)

pub returns-clause-memory : goal.returns-clause-memory
returns-clause-memory c = λ there. memory_alone c.take_all-parts.result c.close_parts.new.slot c.close_parts.result c.close_parts.ensures.closes

pub returns-clause-there : goal.returns-clause-there
returns-clause-there c = closes_there c.args.opening c.args.slots.now c.close_parts.result c.in_default.ensures.there

pub returns-clause-why : goal.returns-clause-why
returns-clause-why c = refuses_first c.args.opening c.args.slots.now c.take_all-parts.result c.close_parts.new.slot c.close_parts.result c.in_default.ensures.there c.close_parts.ensures.closes

pub returns-clause-closes : goal.returns-clause-closes
returns-clause-closes c = record {
  closes = let e = c.take_all-parts.ensures.emptied.emptied in inl (record {
    opening = c.args.opening;
    parts = c.take_all-parts.result;
    held = held_back c.check_all.ensures.stay.held c.take_all-parts.ensures.held;
    emptied = record { driver_is = e.driver_is; processors_are = e.processors_are; groups_are = e.groups_are; hands_are = e.hands_are };
    comes_to = c.close_parts.ensures.closes;
  });
  sections = let checked = c.check_all.ensures.stay.sections in let took = c.take_all-parts.ensures.emptied.sections in record {
    control_stays = c.close_parts.ensures.reading ∙ took.control_stays ∙ checked.control_stays;
    driver_stays = took.driver_stays ∙ checked.driver_stays;
    processors_stay = took.processors_stay ∙ checked.processors_stay;
    groups_stay = took.groups_stay ∙ checked.groups_stay;
    hands_stay = took.hands_stay ∙ checked.hands_stay;
  };
}

pub returns-in-Err-clause-closes : goal.returns-in-Err-clause-closes
returns-in-Err-clause-closes c = record {
  closes = inr (refl, c.check_all.ensures.stay.held);
  sections = c.check_all.ensures.stay.sections;
}

pub returns-in_default-find_room-clause-closes : goal.returns-in_default-find_room-clause-closes
returns-in_default-find_room-clause-closes c = record {
  closes = inr (refl, c.check_all.ensures.stay.held);
  sections = c.check_all.ensures.stay.sections;
}
