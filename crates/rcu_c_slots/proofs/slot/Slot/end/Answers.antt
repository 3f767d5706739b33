use Rattle.std.proofs.Common.{ap, sym, ◌∙◌}
use Rattle.rcu_c_slots.specs.Parts.{is_closed}
use Rattle.rcu_c_slots.specs.declared.part.Lent.{Lent}
use Rattle.rcu_c_slots.proofs.slot.Slot.end.Goals as goal

pub returns-clause-ends : goal.returns-clause-ends
returns-clause-ends c = (c.in-Some.boxed.value, c.in-Some.ensures.taken, ap (λ (l : Lent). is_closed l.part) (sym c.deref.ensures) ∙ (sym c.is_closed.ensures ∙ c.if-not-is_closed.false))
