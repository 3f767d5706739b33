use Rattle.std.proofs.Common.{◌∙◌, ap, arith, sym}
use Rattle.rcu_c_slots.specs.declared.slot.Slot.{Slot}
use Rattle.rcu_c_slots.proofs.Placing.{empty_more, none_in}
use Rattle.rcu_c_slots.proofs.opening.are_empty.Goals as goal

pub loop-place-preserved : goal.loop-place-preserved
loop-place-preserved c = let l = c.loop-place in let slot = c.index-slots-place.result in
    empty_more l.place c.args.slots.now slot (omega (arith, c.loop-place-test.true)) (ap (λ (s : Slot). s.held.part.value) (sym c.index-slots-place.is) ∙ c.is_full.ensures.empty c.if-is_full.false) l.invariant

pub returns-then-is_full-clause-full : goal.returns-then-is_full-clause-full
returns-then-is_full-clause-full c = let l = c.loop-place in let slot = c.index-slots-place.result in λ _ none.
    c.is_full.ensures.full c.if-is_full.true (ap (λ (s : Slot). s.held.part.value) c.index-slots-place.is ∙ none_in c.args.slots.now l.place slot (omega (arith, c.loop-place-test.true)) none)
