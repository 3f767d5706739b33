use Rattle.std.proofs.Common.{◌≡◌, ◌+◌, ◌<◌, List, arith, length, refl, subst, sym}
use Rattle.rcu_c_slots.specs.Gathers.{held_in, sections_in}
use Rattle.rcu_c_slots.specs.Opens.{boxed}
use Rattle.rcu_c_slots.specs.declared.slot.Slot.{Slot}
use Rattle.rcu_c_slots.proofs.Placing.{IsPutTo, put_all, put_at, put_more, put_none, put_skip}
use Rattle.rcu_c_slots.proofs.Sections.{sections_after}
use Rattle.rcu_c_slots.proofs.opening.put_each.Goals.{in-Some, in_default}
use Rattle.rcu_c_slots.proofs.opening.put_each.Goals as goal

pub loop-place-init : goal.loop-place-init
loop-place-init c = (put_none (boxed c.args.boxes.now.items) c.args.slots.now c.requires.empty c.requires.rising, refl)

pub loop-place-preserved : goal.loop-place-preserved
loop-place-preserved c =
    let l = c.loop-place in let end = length c.args.slots.now in let all = boxed c.args.boxes.now.items in let old = boxed l.boxes.items in let rest = boxed c.next_at.new.boxes.items in
    let low : l.place < length l.slots = omega (arith, l.auto.slots, c.loop-place-test.true) in elim c.match-next_at.branch [
      | in-Some w ↦ (
        subst (λ (ss : List Slot). IsPutTo (l.place + 1) end all rest (held_in ss)) (sym w.slots-is)
            (put_more l.place end all old rest w.in-Some.boxed.value l.slots w.put.new.self low w.put.ensures.full w.in-Some.ensures.0 w.in-Some.ensures.1 l.invariant.0),
        subst (λ (ss : List Slot). sections_in ss ≡ sections_in c.args.slots.now) (sym w.slots-is)
            (sections_after l.place c.args.slots.now l.slots _ w.put.new.self w.put.ensures.reading l.invariant.1),
      )
      | in_default w ↦ (
        subst (λ (ss : List Slot). IsPutTo (l.place + 1) end all rest (held_in ss)) (sym w.slots-is)
            (put_skip l.place end all old rest l.slots low w.in_default.ensures.0 w.in_default.ensures.1 l.invariant.0),
        subst (λ (ss : List Slot). sections_in ss ≡ sections_in c.args.slots.now) (sym w.slots-is) l.invariant.1,
      )
    ]

pub returns-clause-put : goal.returns-clause-put
returns-clause-put c = let l = c.loop-place in put_all l.place (length c.args.slots.now) (boxed c.args.boxes.now.items) (boxed l.boxes.items) (held_in l.slots) (omega (arith, l.auto.slots, l.invariant.0.long, c.loop-place-test.false)) l.invariant.0

pub returns-clause-places : goal.returns-clause-places
returns-clause-places c = let l = c.loop-place in put_at l.place (length c.args.slots.now) (boxed c.args.boxes.now.items) (boxed l.boxes.items) (held_in l.slots) (omega (arith, l.auto.slots, l.invariant.0.long, c.loop-place-test.false)) l.invariant.0

pub returns-clause-sections : goal.returns-clause-sections
returns-clause-sections c = c.loop-place.invariant.1
