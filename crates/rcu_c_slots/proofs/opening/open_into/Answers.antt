use Rattle.std.proofs.Common.{Some, ◌≤◌, ap, arith, length, refl, ◌∙◌}
use mathlib.Core.Logic.{inr}
use Rattle.rcu_c_slots.specs.Gathers.{held_in}
use Rattle.rcu_c_slots.specs.Opens.{boxed}
use Rattle.rcu_c_slots.specs.Processors.{ForeignCpu, lent_processor}
use Rattle.rcu_c_slots.specs.Runs.{ForeignHand, lent_hand}
use Rattle.rcu_c_slots.specs.declared.job.ForeignJob.{ForeignJob}
use Rattle.rcu_c_slots.specs.declared.part.Part.TheVariants as part
use Rattle.rcu_part_group.specs.declared.group.Group.{Group}
use Rattle.rcu_parts.specs.OneOpen.{groups_in, hands_in, processors_in}
use Rattle.rcu_c_slots.proofs.NewParts.{rising_groups, rising_hands, rising_processors}
use Rattle.rcu_c_slots.proofs.Placing.{for_places, put_parts, put_places}
use Rattle.rcu_c_slots.proofs.opening.open_into.Goals as goal

pub put_each-requires-clause-rising : goal.put_each-requires-clause-rising
put_each-requires-clause-rising c = let e = c.in-Ok.ensures in let b = e.boxes_all in let end = length c.args.slots.now.processors in let w = c.args.shape.now.within.some_processors in let few : c.args.shape.now.processors ≤ end = omega (arith, w) in
    for_places b.opening (λ (p : ForeignCpu). p.state.cpu) (λ p. part.Processor (lent_processor p)) (processors_in e.parts) (boxed c.in-Ok.boxes.processors.items) end b.boxed.processors_are
    (rising_processors c.args.kept c.args.shape.now e.parts e.new.opened end few)

pub put_each-requires-2-clause-rising : goal.put_each-requires-2-clause-rising
put_each-requires-2-clause-rising c = let e = c.in-Ok.ensures in let b = e.boxes_all in let end = length c.args.slots.now.groups in let w = c.args.shape.now.within.some_processors in let few : c.args.shape.now.processors ≤ end = omega (arith, w) in
    for_places b.opening (λ (g : Group ForeignJob ForeignJob). g.state.group) (λ g. part.Group g) (groups_in e.parts) (boxed c.in-Ok.boxes.groups.items) end b.boxed.groups_are
    (rising_groups c.args.kept c.args.shape.now e.parts e.new.opened end few)

pub put_each-requires-3-clause-rising : goal.put_each-requires-3-clause-rising
put_each-requires-3-clause-rising c = let e = c.in-Ok.ensures in let b = e.boxes_all in let end = length c.args.slots.now.hands in let w = c.args.shape.now.within.some_processors in let few : c.args.shape.now.processors ≤ end = omega (arith, w) in
    for_places b.opening (λ (h : ForeignHand). h.state.hand.cpu) (λ h. part.Hand (lent_hand h)) (hands_in e.parts) (boxed c.in-Ok.boxes.hands.items) end b.boxed.hands_are
    (rising_hands c.args.kept c.args.shape.now e.parts e.new.opened end few)

pub returns-clause-opened : goal.returns-clause-opened
returns-clause-opened c =
    let e = c.in-Ok.ensures in let b = e.boxes_all in let o = b.opening in
    let ps = processors_in e.parts in let gs = groups_in e.parts in let hs = hands_in e.parts in
    let put_ps = c.put_each.ensures in let put_gs = c.put_each-2.ensures in let put_hs = c.put_each-3.ensures in
    let cpu = λ (p : ForeignCpu). p.state.cpu in let group = λ (g : Group ForeignJob ForeignJob). g.state.group in let hand = λ (h : ForeignHand). h.state.hand.cpu in record {
      parts = e.parts;
      new = e.new;
      opening = o;
      named = b.named;
      held = record {
        control_is = c.put-2.ensures.full ∙ ap Some b.boxed.control_is;
        driver_is = c.put.ensures.full ∙ ap Some b.boxed.driver_is;
        processors_are = put_parts o cpu (λ p. part.Processor (lent_processor p)) ps (held_in c.put_each.new.slots) (boxed c.in-Ok.boxes.processors.items) put_ps.put b.boxed.processors_are;
        groups_are = put_parts o group (λ g. part.Group g) gs (held_in c.put_each-2.new.slots) (boxed c.in-Ok.boxes.groups.items) put_gs.put b.boxed.groups_are;
        hands_are = put_parts o hand (λ h. part.Hand (lent_hand h)) hs (held_in c.put_each-3.new.slots) (boxed c.in-Ok.boxes.hands.items) put_hs.put b.boxed.hands_are;
        processors_at = put_places o cpu (λ p. part.Processor (lent_processor p)) ps (held_in c.put_each.new.slots) (boxed c.in-Ok.boxes.processors.items) put_ps.put b.boxed.processors_are put_ps.places;
        groups_at = put_places o group (λ g. part.Group g) gs (held_in c.put_each-2.new.slots) (boxed c.in-Ok.boxes.groups.items) put_gs.put b.boxed.groups_are put_gs.places;
        hands_at = put_places o hand (λ h. part.Hand (lent_hand h)) hs (held_in c.put_each-3.new.slots) (boxed c.in-Ok.boxes.hands.items) put_hs.put b.boxed.hands_are put_hs.places;
        many_processors = b.boxed.many.processors;
        many_groups = b.boxed.many.groups;
        many_hands = b.boxed.many.hands;
      };
      at_home = record {
        processors_are = put_ps.put ∙ b.boxed.processors_are;
        groups_are = put_gs.put ∙ b.boxed.groups_are;
        hands_are = put_hs.put ∙ b.boxed.hands_are;
      };
    }

pub returns-clause-empty : goal.returns-clause-empty
returns-clause-empty c = record {
  control_is = c.is_full.ensures.empty c.if-is_full.false;
  driver_is = c.is_full-else-is_full.ensures.empty c.if-is_full-2.false;
  processors_are = c.are_empty.ensures.empty c.if-not-are_empty.false;
  groups_are = c.are_empty-else-not-are_empty.ensures.empty c.if-not-are_empty-2.false;
  hands_are = c.are_empty-else-not-are_empty-2.ensures.empty c.if-not-are_empty-3.false;
}

pub returns-then-is_full-clause-refused : goal.returns-then-is_full-clause-refused
returns-then-is_full-clause-refused c = record { control_stays = refl; driver_stays = refl; processors_stay = refl; groups_stay = refl; hands_stay = refl }

pub returns-then-not-are_empty-clause-refused : goal.returns-then-not-are_empty-clause-refused
returns-then-not-are_empty-clause-refused c = record { control_stays = refl; driver_stays = refl; processors_stay = refl; groups_stay = refl; hands_stay = refl }

pub returns-in_default-clause-refused : goal.returns-in_default-clause-refused
returns-in_default-clause-refused c = record { control_stays = refl; driver_stays = refl; processors_stay = refl; groups_stay = refl; hands_stay = refl }

pub returns-in_default-clause-why : goal.returns-in_default-clause-why
returns-in_default-clause-why c = inr (
  refl,
  record {
    control_is = c.is_full.ensures.empty c.if-is_full.false;
    driver_is = c.is_full-else-is_full.ensures.empty c.if-is_full-2.false;
    processors_are = c.are_empty.ensures.empty c.if-not-are_empty.false;
    groups_are = c.are_empty-else-not-are_empty.ensures.empty c.if-not-are_empty-2.false;
    hands_are = c.are_empty-else-not-are_empty-2.ensures.empty c.if-not-are_empty-3.false;
  },
)

pub put_each-requires-clause-empty : goal.put_each-requires-clause-empty
put_each-requires-clause-empty c = c.are_empty.ensures.empty c.if-not-are_empty.false

pub put_each-requires-2-clause-empty : goal.put_each-requires-2-clause-empty
put_each-requires-2-clause-empty c = c.are_empty-else-not-are_empty.ensures.empty c.if-not-are_empty-2.false

pub put_each-requires-3-clause-empty : goal.put_each-requires-3-clause-empty
put_each-requires-3-clause-empty c = c.are_empty-else-not-are_empty-2.ensures.empty c.if-not-are_empty-3.false

pub returns-then-is_full-clause-sections : goal.returns-then-is_full-clause-sections
returns-then-is_full-clause-sections c = record { control_stays = refl; driver_stays = refl; processors_stay = refl; groups_stay = refl; hands_stay = refl }

pub returns-then-not-are_empty-clause-sections : goal.returns-then-not-are_empty-clause-sections
returns-then-not-are_empty-clause-sections c = record { control_stays = refl; driver_stays = refl; processors_stay = refl; groups_stay = refl; hands_stay = refl }

pub returns-in_default-clause-sections : goal.returns-in_default-clause-sections
returns-in_default-clause-sections c = record { control_stays = refl; driver_stays = refl; processors_stay = refl; groups_stay = refl; hands_stay = refl }

pub returns-clause-sections : goal.returns-clause-sections
returns-clause-sections c = record {
  control_stays = c.put-2.ensures.reading;
  driver_stays = c.put.ensures.reading;
  processors_stay = c.put_each.ensures.sections;
  groups_stay = c.put_each-2.ensures.sections;
  hands_stay = c.put_each-3.ensures.sections;
}
