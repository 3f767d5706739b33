use Rattle.std.proofs.Common.{sym}
use Rattle.rcu_c_slots.specs.Processors.{lent_processor}
use Rattle.rcu_c_slots.specs.Runs.{lent_hand}
use Rattle.rcu_c_slots.specs.declared.part.Part.TheVariants as part
use Rattle.rcu_c_slots.specs.declared.part.PartKind.TheVariants as kind
use Rattle.rcu_c_slots.proofs.TakenOut.{room_for_all, there_kind, there_whole, took_many}
use Rattle.rcu_c_slots.proofs.closing.take_all.Goals as goal

pub take_processors-requires-clause-kinds : goal.take_processors-requires-clause-kinds
take_processors-requires-clause-kinds c = c.requires.ready.processors_are.kinds

pub take_processors-requires-clause-none : goal.take_processors-requires-clause-none
take_processors-requires-clause-none c = c.requires.none.0

pub take_processors-requires-clause-room : goal.take_processors-requires-clause-room
take_processors-requires-clause-room c = room_for_all c.requires.ready.processors_are c.requires.processors

pub take_groups-requires-clause-kinds : goal.take_groups-requires-clause-kinds
take_groups-requires-clause-kinds c = c.requires.ready.groups_are.kinds

pub take_groups-requires-clause-none : goal.take_groups-requires-clause-none
take_groups-requires-clause-none c = c.requires.none.1

pub take_groups-requires-clause-room : goal.take_groups-requires-clause-room
take_groups-requires-clause-room c = room_for_all c.requires.ready.groups_are c.requires.groups

pub take_hands-requires-clause-kinds : goal.take_hands-requires-clause-kinds
take_hands-requires-clause-kinds c = c.requires.ready.hands_are.kinds

pub take_hands-requires-clause-none : goal.take_hands-requires-clause-none
take_hands-requires-clause-none c = c.requires.none.2

pub take_hands-requires-clause-room : goal.take_hands-requires-clause-room
take_hands-requires-clause-room c = room_for_all c.requires.ready.hands_are c.requires.hands

pub take_driver-driver-requires : goal.take_driver-driver-requires
take_driver-driver-requires c = record { there = there_kind c.requires.ready.driver_is }

pub take_control-control-requires : goal.take_control-control-requires
take_control-control-requires c = record { there = there_kind c.requires.ready.control_is }

pub returns-clause-held : goal.returns-clause-held
returns-clause-held c = let ready = c.requires.ready in let slots = c.args.slots.now in let o = c.args.opening in record {
  control_is = there_whole o kind.Control (part.Control c.take_control-control.result) slots.control.held.part.value ready.control_is c.take_control-control.ensures.takes;
  driver_is = there_whole o kind.Driver (part.Driver c.take_driver-driver.result) slots.driver.held.part.value ready.driver_is c.take_driver-driver.ensures.takes;
  processors_are = sym c.take_processors.ensures.took;
  groups_are = sym c.take_groups.ensures.took;
  hands_are = sym c.take_hands.ensures.took;
  processors_at = ready.processors_are.places;
  groups_at = ready.groups_are.places;
  hands_at = ready.hands_are.places;
  many_processors = took_many ready.processors_are (λ x. part.Processor (lent_processor x)) c.take_processors.new.out.items c.take_processors.ensures.took;
  many_groups = took_many ready.groups_are (λ x. part.Group x) c.take_groups.new.out.items c.take_groups.ensures.took;
  many_hands = took_many ready.hands_are (λ x. part.Hand (lent_hand x)) c.take_hands.new.out.items c.take_hands.ensures.took;
}

pub returns-clause-emptied : goal.returns-clause-emptied
returns-clause-emptied c = record {
  emptied = record {
    driver_is = c.take_driver-driver.ensures.empties.empty;
    processors_are = c.take_processors.ensures.empties.empty;
    groups_are = c.take_groups.ensures.empties.empty;
    hands_are = c.take_hands.ensures.empties.empty;
  };
  control = c.take_control-control.ensures.keeps.box;
  sections = record {
    control_stays = c.take_control-control.ensures.keeps.reading;
    driver_stays = c.take_driver-driver.ensures.empties.reading;
    processors_stay = c.take_processors.ensures.empties.sections;
    groups_stay = c.take_groups.ensures.empties.sections;
    hands_stay = c.take_hands.ensures.empties.sections;
  };
}
