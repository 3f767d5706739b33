use Rattle.std.proofs.Common.{◌≡◌, ap, ◌∙◌, arith, refl, subst, sym, vec_capacity}
use Rattle.std.proofs.lemmas.List.{length-map}
use Rattle.rcu_c_slots.specs.Processors.{lent_processor}
use Rattle.rcu_c_slots.specs.Gathers.{held_in}
use Rattle.rcu_c_slots.specs.Parts.{kind_of}
use Rattle.rcu_c_slots.specs.declared.part.Lent.{Lent}
use Rattle.rcu_c_slots.specs.declared.part.Part.TheVariants as part
use Rattle.rcu_c_slots.specs.declared.part.PartKind.TheVariants as kind
use Rattle.rcu_c_slots.specs.declared.slot.Slot.{Slot}
use Rattle.rcu_c_slots.proofs.Helds.{IsTakenTo, empty_all, here_is, room_here, taken_all, taken_more, taken_none, taken_nothing}
use Rattle.rcu_c_slots.proofs.Sections.{sections_after}
use Rattle.rcu_c_slots.proofs.taken.take_processors.Goals.{in-Some, in_default}
use Rattle.rcu_c_slots.proofs.taken.take_processors.Goals as goal

pub take_processor-requires : goal.take_processor-requires
take_processor-requires c = let l = c.loop-place in record {
  kind = here_is (λ x. part.Processor (lent_processor x)) (λ (t : Lent). kind_of t.part ≡ kind.Processor) l.place (held_in c.args.slots.now) l.slots c.index-slots-place.result l.out.items (omega (arith, l.auto.slots, c.loop-place-test.true)) l.invariant.0 c.requires.kinds;
}

pub push_reserved-requires : goal.push_reserved-requires
push_reserved-requires c = let l = c.loop-place in
    let room = room_here (λ x. part.Processor (lent_processor x)) l.place _ (held_in c.args.slots.now) l.slots c.index-slots-place.result l.out.items c.in-Some.processor (omega (arith, l.auto.slots, c.loop-place-test.true)) l.invariant.0 c.in-Some.ensures.takes c.requires.room in
    omega (arith, room, l.invariant.1, l.out.ok.0)

pub loop-place-preserved : goal.loop-place-preserved
loop-place-preserved c = let l = c.loop-place in let d = c.index-slots-place.result in let after = c.take_processor.new.slot in elim c.match-take_processor.branch [
  | in-Some w ↦ (
    taken_more (λ x. part.Processor (lent_processor x)) l.place (held_in c.args.slots.now) l.slots d after l.out.items c.match-take_processor.out.items w.in-Some.processor (omega (arith, l.auto.slots, c.loop-place-test.true)) c.take_processor.ensures.empties.empty w.in-Some.ensures.takes (ap (λ v. v.items) w.out-is ∙ w.push_reserved.ensures.items) l.invariant.0,
    ap vec_capacity w.out-is ∙ (w.push_reserved.ensures.capacity ∙ l.invariant.1),
    sections_after l.place c.args.slots.now l.slots d after c.take_processor.ensures.empties.reading l.invariant.2,
  )
  | in_default w ↦ (
    rw w.out-is (taken_nothing (λ x. part.Processor (lent_processor x)) l.place (held_in c.args.slots.now) l.slots d after l.out.items (omega (arith, l.auto.slots, c.loop-place-test.true)) c.take_processor.ensures.empties.empty w.in_default.ensures.takes l.invariant.0),
    ap vec_capacity w.out-is ∙ l.invariant.1,
    sections_after l.place c.args.slots.now l.slots d after c.take_processor.ensures.empties.reading l.invariant.2,
  )
]

pub loop-place-init : goal.loop-place-init
loop-place-init c = (subst (λ out. IsTakenTo (λ x. part.Processor (lent_processor x)) 0 (held_in c.args.slots.now) (held_in c.args.slots.now) out) (sym c.requires.none) (taken_none (λ x. part.Processor (lent_processor x)) (held_in c.args.slots.now)), refl, refl)

pub returns-clause-took : goal.returns-clause-took
returns-clause-took c = let l = c.loop-place in let long = length-map l.slots (λ (s : Slot). s.held.part.value) in
    taken_all (λ x. part.Processor (lent_processor x)) l.place (held_in c.args.slots.now) (held_in l.slots) l.out.items (omega (arith, long, l.auto.slots, c.loop-place-test.false)) l.invariant.0

pub returns-clause-empties : goal.returns-clause-empties
returns-clause-empties c = record {
  empty = let l = c.loop-place in let long = length-map l.slots (λ (s : Slot). s.held.part.value) in
      empty_all (λ x. part.Processor (lent_processor x)) l.place (held_in c.args.slots.now) (held_in l.slots) l.out.items (omega (arith, long, l.auto.slots, c.loop-place-test.false)) l.invariant.0;
  sections = c.loop-place.invariant.2;
}
