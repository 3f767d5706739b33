use Rattle.std.proofs.Common.{◌≡◌, ℕ, ◌+◌, ◌≤◌, List, arith, get_or, length, refl, set, sym, ◌∙◌, subst}
use Rattle.std.proofs.lemmas.List.{length-map}
use Rattle.std.proofs.Math.Seq.{map-set_same}
use Rattle.std.proofs.lemmas.List.Elements.{All-get_or, All-set}
use Rattle.rcu_c_slots.specs.Gathers.{AreChecked, held_in}
use Rattle.rcu_c_slots.specs.declared.slot.Slot.{Slot}
use mathlib.Core.Logic.{inl, inr}
use Rattle.rcu_c_slots.proofs.Helds.{IsCheckedTo, belongs_here, checked_all, checked_more, checked_none, counted, found_all}
use Rattle.rcu_c_slots.proofs.Sections.{sections_after}
use Rattle.rcu_c_slots.proofs.Unread.{refused_here, unread_all, unread_more, unread_none}
use Rattle.rcu_c_slots.proofs.checks.check_each.Goals as goal

pub returns-in-Err-clause-stay : goal.returns-in-Err-clause-stay
returns-in-Err-clause-stay c = let l = c.loop-place in
    map-set_same (λ (s : Slot). s.held.part.value) l.slots l.place c.check_one.new.slot c.index-slots-place.result c.check_one.ensures.stays.held ∙ l.invariant.0.same

pub loop-place-preserved : goal.loop-place-preserved
loop-place-preserved c = let l = c.loop-place in let d = c.index-slots-place.result in let after = c.check_one.new.slot in (
  subst (λ n. IsCheckedTo c.args.opening c.args.kind (l.place + 1) (l.found + n) (held_in c.args.slots.now) (held_in (set l.slots l.place after))) (sym (c.from-found.ensures ∙ counted (get_or l.slots l.place d).held.part.value c.in-Ok.ensures.full))
      (checked_more c.args.opening c.args.kind l.place l.found (held_in c.args.slots.now) l.slots d after (omega (arith, l.auto.slots, c.loop-place-test.true)) c.check_one.ensures.stays.held l.invariant.0 c.in-Ok.ensures.place c.in-Ok.ensures.kind),
  λ unread. All-set (λ (s : Slot). s.reading ≡ 0) l.slots l.place after (c.check_one.ensures.stays.reading ∙ All-get_or (λ (s : Slot). s.reading ≡ 0) l.slots l.place d (omega (arith, l.auto.slots, c.loop-place-test.true)) (l.invariant.1 unread)) (l.invariant.1 unread),
  unread_more l.place c.args.slots.now l.slots d after (omega (arith, l.auto.slots, c.loop-place-test.true)) c.in-Ok.ensures.unread l.invariant.2,
  sections_after l.place c.args.slots.now l.slots d after c.check_one.ensures.stays.reading l.invariant.3,
)

pub returns-in-Err-clause-err : goal.returns-in-Err-clause-err
returns-in-Err-clause-err c = let l = c.loop-place in let d = c.index-slots-place.result in λ unread checked. c.in-Err.ensures.err
    (All-get_or (λ (s : Slot). s.reading ≡ 0) l.slots l.place d (omega (arith, l.auto.slots, c.loop-place-test.true)) (l.invariant.1 unread))
    (belongs_here c.args.opening c.args.kind c.args.many l.place l.found (held_in c.args.slots.now) l.slots d (omega (arith, l.auto.slots, c.loop-place-test.true)) l.invariant.0 checked)

pub returns-in-Err-clause-why : goal.returns-in-Err-clause-why
returns-in-Err-clause-why c = let l = c.loop-place in let d = c.index-slots-place.result in
    inl (refused_here c.args.opening c.args.kind c.in-Err.fault l.place c.args.slots.now l.slots d (omega (arith, l.auto.slots, c.loop-place-test.true)) l.invariant.2 c.in-Err.ensures.why)

pub returns-clause-unread : goal.returns-clause-unread
returns-clause-unread c = let l = c.loop-place in unread_all l.place c.args.slots.now l.slots (omega (arith, l.auto.slots, c.loop-place-test.false)) l.invariant.2

pub loop-place-init : goal.loop-place-init
loop-place-init c = (checked_none c.args.opening c.args.kind (held_in c.args.slots.now), λ unread. unread, unread_none c.args.slots.now, refl)

pub returns-then-found-many-clause-stay : goal.returns-then-found-many-clause-stay
returns-then-found-many-clause-stay c = c.loop-place.invariant.0.same

pub returns-then-found-many-2-clause-stay : goal.returns-then-found-many-2-clause-stay
returns-then-found-many-2-clause-stay c = c.loop-place.invariant.0.same

pub returns-clause-stay : goal.returns-clause-stay
returns-clause-stay c = c.loop-place.invariant.0.same

-- all were looked at
looked_at_all : (slots : List Slot) (i : ℕ) → length slots ≤ i → length (held_in slots) ≤ i
looked_at_all slots i end = let long = length-map slots (λ (s : Slot). s.held.part.value) in omega (arith, end, long)

pub returns-then-found-many-clause-err : goal.returns-then-found-many-clause-err
returns-then-found-many-clause-err c = let l = c.loop-place in λ unread checked.
    let found = found_all c.args.opening c.args.kind c.args.many l.place l.found (held_in c.args.slots.now) (held_in l.slots) (looked_at_all c.args.slots.now l.place c.loop-place-test.false) l.invariant.0 checked in
    omega (arith, found, c.if-found-many.true)

pub returns-then-found-many-clause-why : goal.returns-then-found-many-clause-why
returns-then-found-many-clause-why c = let l = c.loop-place in
    let count = (checked_all c.args.opening c.args.kind l.place l.found (held_in c.args.slots.now) (held_in l.slots) (looked_at_all c.args.slots.now l.place c.loop-place-test.false) l.invariant.0).count in
    inr (inl (refl, omega (arith, count, c.if-found-many.true)))

pub returns-then-found-many-2-clause-err : goal.returns-then-found-many-2-clause-err
returns-then-found-many-2-clause-err c = let l = c.loop-place in λ unread checked.
    let found = found_all c.args.opening c.args.kind c.args.many l.place l.found (held_in c.args.slots.now) (held_in l.slots) (looked_at_all c.args.slots.now l.place c.loop-place-test.false) l.invariant.0 checked in
    omega (arith, found, c.if-found-many-2.true)

pub returns-then-found-many-2-clause-why : goal.returns-then-found-many-2-clause-why
returns-then-found-many-2-clause-why c = let l = c.loop-place in
    let count = (checked_all c.args.opening c.args.kind l.place l.found (held_in c.args.slots.now) (held_in l.slots) (looked_at_all c.args.slots.now l.place c.loop-place-test.false) l.invariant.0).count in
    inr (inr (refl, omega (arith, count, c.if-found-many-2.true)))

pub returns-clause-checked : goal.returns-clause-checked
returns-clause-checked c = let l = c.loop-place in
    subst (λ n. AreChecked c.args.opening c.args.kind n (held_in c.args.slots.now)) (omega (arith, c.if-found-many.false, c.if-found-many-2.false))
    (checked_all c.args.opening c.args.kind l.place l.found (held_in c.args.slots.now) (held_in l.slots) (looked_at_all c.args.slots.now l.place c.loop-place-test.false) l.invariant.0)

pub returns-in-Err-clause-sections : goal.returns-in-Err-clause-sections
returns-in-Err-clause-sections c = let l = c.loop-place in
    sections_after l.place c.args.slots.now l.slots c.index-slots-place.result c.check_one.new.slot c.check_one.ensures.stays.reading l.invariant.3

pub returns-then-found-many-clause-sections : goal.returns-then-found-many-clause-sections
returns-then-found-many-clause-sections c = c.loop-place.invariant.3

pub returns-then-found-many-2-clause-sections : goal.returns-then-found-many-2-clause-sections
returns-then-found-many-2-clause-sections c = c.loop-place.invariant.3

pub returns-clause-sections : goal.returns-clause-sections
returns-clause-sections c = c.loop-place.invariant.3
