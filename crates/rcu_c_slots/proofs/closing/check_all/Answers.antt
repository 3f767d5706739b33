use Rattle.std.proofs.Common.{refl}
use mathlib.Core.Logic.{inl, inr}
use Rattle.rcu_c_slots.specs.Gathers.{StayHeld}
use Rattle.rcu_c_slots.specs.declared.slot.PartSlots.{PartSlots}
use Rattle.rcu_c_slots.proofs.Ready.{all_there_by, not_all_there_by, ready_by, refuses_by}
use Rattle.rcu_c_slots.proofs.closing.check_all.Goals as goal

pub returns-in-Err-clause-err : goal.returns-in-Err-clause-err
returns-in-Err-clause-err c = λ t. c.in-Err.ensures.err t.control_unread t.ready.control_is

pub returns-in-Err-clause-why : goal.returns-in-Err-clause-why
returns-in-Err-clause-why c = inl c.in-Err.ensures.why

pub returns-in-Err-check_there-clause-err : goal.returns-in-Err-check_there-clause-err
returns-in-Err-check_there-clause-err c = λ t. c.in-Err-check_there.ensures.err t.driver_unread t.ready.driver_is

pub returns-in-Err-check_there-clause-why : goal.returns-in-Err-check_there-clause-why
returns-in-Err-check_there-clause-why c = inr (inl c.in-Err-check_there.ensures.why)

pub returns-in-Err-check_each-clause-err : goal.returns-in-Err-check_each-clause-err
returns-in-Err-check_each-clause-err c = λ t. c.in-Err-check_each.ensures.err t.processors_unread t.ready.processors_are

pub returns-in-Err-check_each-clause-why : goal.returns-in-Err-check_each-clause-why
returns-in-Err-check_each-clause-why c = inr (inr (inl c.in-Err-check_each.ensures.why))

pub returns-in-Err-check_each-2-clause-err : goal.returns-in-Err-check_each-2-clause-err
returns-in-Err-check_each-2-clause-err c = λ t. c.in-Err-check_each-2.ensures.err t.groups_unread t.ready.groups_are

pub returns-in-Err-check_each-2-clause-why : goal.returns-in-Err-check_each-2-clause-why
returns-in-Err-check_each-2-clause-why c = inr (inr (inr (inl c.in-Err-check_each-2.ensures.why)))

pub returns-clause-ready : goal.returns-clause-ready
returns-clause-ready c =
    let new : PartSlots = record { control = c.check_there.new.slot; driver = c.check_there-2.new.slot; processors = c.check_each.new.slots; groups = c.check_each-2.new.slots; hands = c.check_each-3.new.slots } in
    let stay : StayHeld c.args.slots.now new = record {
      control_stays = c.check_there.ensures.stays.held;
      driver_stays = c.check_there-2.ensures.stays.held;
      processors_stay = c.check_each.ensures.stay;
      groups_stay = c.check_each-2.ensures.stay;
      hands_stay = c.check_each-3.ensures.stay;
    } in
    ready_by c.args.opening c.args.slots.now new c.check_each-3.result stay c.in_default.ensures.there c.in_default-check_there.ensures.there c.in_default-check_each.ensures.checked c.in_default-check_each-2.ensures.checked c.check_each-3.ensures.checked

pub returns-clause-err : goal.returns-clause-err
returns-clause-err c = not_all_there_by c.args.opening c.args.slots.now c.check_each-3.result c.check_each-3.ensures.err

pub returns-clause-there : goal.returns-clause-there
returns-clause-there c =
    let slots = c.args.slots.now in let r = c.check_each-3.result in
    let stay : StayHeld slots slots = record { control_stays = refl; driver_stays = refl; processors_stay = refl; groups_stay = refl; hands_stay = refl } in
    all_there_by c.args.opening slots r (ready_by c.args.opening slots slots r stay c.in_default.ensures.there c.in_default-check_there.ensures.there c.in_default-check_each.ensures.checked c.in_default-check_each-2.ensures.checked c.check_each-3.ensures.checked)
    c.in_default.ensures.unread c.in_default-check_there.ensures.unread c.in_default-check_each.ensures.unread c.in_default-check_each-2.ensures.unread c.check_each-3.ensures.unread

pub returns-clause-why : goal.returns-clause-why
returns-clause-why c = refuses_by c.args.opening c.args.slots.now c.check_each-3.result c.check_each-3.ensures.why

pub returns-in-Err-clause-stay : goal.returns-in-Err-clause-stay
returns-in-Err-clause-stay c = record {
  held = record { control_stays = c.check_there.ensures.stays.held; driver_stays = refl; processors_stay = refl; groups_stay = refl; hands_stay = refl };
  sections = record { control_stays = c.check_there.ensures.stays.reading; driver_stays = refl; processors_stay = refl; groups_stay = refl; hands_stay = refl };
}

pub returns-in-Err-check_there-clause-stay : goal.returns-in-Err-check_there-clause-stay
returns-in-Err-check_there-clause-stay c = record {
  held = record { control_stays = c.check_there.ensures.stays.held; driver_stays = c.check_there-2.ensures.stays.held; processors_stay = refl; groups_stay = refl; hands_stay = refl };
  sections = record { control_stays = c.check_there.ensures.stays.reading; driver_stays = c.check_there-2.ensures.stays.reading; processors_stay = refl; groups_stay = refl; hands_stay = refl };
}

pub returns-in-Err-check_each-clause-stay : goal.returns-in-Err-check_each-clause-stay
returns-in-Err-check_each-clause-stay c = record {
  held = record { control_stays = c.check_there.ensures.stays.held; driver_stays = c.check_there-2.ensures.stays.held; processors_stay = c.check_each.ensures.stay; groups_stay = refl; hands_stay = refl };
  sections = record { control_stays = c.check_there.ensures.stays.reading; driver_stays = c.check_there-2.ensures.stays.reading; processors_stay = c.check_each.ensures.sections; groups_stay = refl; hands_stay = refl };
}

pub returns-in-Err-check_each-2-clause-stay : goal.returns-in-Err-check_each-2-clause-stay
returns-in-Err-check_each-2-clause-stay c = record {
  held = record { control_stays = c.check_there.ensures.stays.held; driver_stays = c.check_there-2.ensures.stays.held; processors_stay = c.check_each.ensures.stay; groups_stay = c.check_each-2.ensures.stay; hands_stay = refl };
  sections = record { control_stays = c.check_there.ensures.stays.reading; driver_stays = c.check_there-2.ensures.stays.reading; processors_stay = c.check_each.ensures.sections; groups_stay = c.check_each-2.ensures.sections; hands_stay = refl };
}

pub returns-clause-stay : goal.returns-clause-stay
returns-clause-stay c = record {
  held = record {
    control_stays = c.check_there.ensures.stays.held;
    driver_stays = c.check_there-2.ensures.stays.held;
    processors_stay = c.check_each.ensures.stay;
    groups_stay = c.check_each-2.ensures.stay;
    hands_stay = c.check_each-3.ensures.stay;
  };
  sections = record { control_stays = c.check_there.ensures.stays.reading; driver_stays = c.check_there-2.ensures.stays.reading; processors_stay = c.check_each.ensures.sections; groups_stay = c.check_each-2.ensures.sections; hands_stay = c.check_each-3.ensures.sections };
}
