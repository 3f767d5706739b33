use Rattle.std.proofs.Common.{ap, refl, subst, sym, ◌∙◌}
use Rattle.rcu_c_slots.specs.Opens.{TakesAt, boxed}
use Rattle.rcu_c_slots.specs.declared.part.Lent.{Lent}
use Rattle.rcu_c_slots.proofs.Boxing.{first_elsewhere, none_elsewhere, takes_first}
use Rattle.rcu_c_slots.proofs.opening.next_at.Goals as goal

pub returns-in_err-front : goal.returns-in_err-front
returns-in_err-front c = let place = c.args.place in let boxes = c.args.boxes.now.items in
    subst (λ r. TakesAt place r (boxed boxes) (boxed boxes)) (sym c.from_residual.ensures) (refl, none_elsewhere place boxes c.in_err-front.ensures.item.3)

pub returns-then-deref-place : goal.returns-then-deref-place
returns-then-deref-place c = (refl, first_elsewhere c.args.place c.args.boxes.now.items c.in_ok-front.field-0.now c.in_ok-front.ensures.lookup (λ e. c.if-deref-place.true (ap (λ (l : Lent). l.at) c.deref.ensures ∙ e)))

pub returns : goal.returns
returns c = takes_first c.args.place c.args.boxes.now.items c.pop_front.new.self.items c.pop_front.result c.in_ok-front.field-0.now c.in_ok-front.ensures.lookup
    (sym (ap (λ (l : Lent). l.at) c.deref.ensures) ∙ c.if-deref-place.false) (c.pop_front.ensures.variant.1 (c.in_ok-front.ensures.variant.0 refl)) c.pop_front.ensures.items
