use Rattle.std.proofs.Common.{IfSome, ap, is_some, refl, subst, sym, ◌∙◌, ◌≡◌}
use mathlib.Core.Logic.{inl, inr}
use Rattle.rcu_c_slots.specs.Gathers.{BelongsAt, IsInPlace}
use Rattle.rcu_c_slots.specs.Parts.{kind_of}
use Rattle.rcu_c_slots.specs.Refusals.{IsMisplaced}
use Rattle.rcu_c_slots.specs.declared.part.Lent.{Lent}
use Rattle.rcu_c_slots.proofs.checks.check_one.Goals as goal

pub returns-then-slot-ne0-clause-err : goal.returns-then-slot-ne0-clause-err
returns-then-slot-ne0-clause-err c = λ unread belongs. c.if-slot-ne0.true unread

pub returns-then-slot-ne0-clause-why : goal.returns-then-slot-ne0-clause-why
returns-then-slot-ne0-clause-why c = inl (refl, c.if-slot-ne0.true)

pub returns-in_default-clause-full : goal.returns-in_default-clause-full
returns-in_default-clause-full c = sym (ap is_some c.in_default.ensures.none)

pub returns-in_default-clause-kind : goal.returns-in_default-clause-kind
returns-in_default-clause-kind c = subst (λ held. IfSome held (λ l. kind_of l.part ≡ c.args.kind)) (sym c.in_default.ensures.none) tt

pub returns-in_default-clause-place : goal.returns-in_default-clause-place
returns-in_default-clause-place c = subst (λ held. IsInPlace c.args.opening c.args.at held) (sym c.in_default.ensures.none) tt

pub returns-in-Ok-clause-full : goal.returns-in-Ok-clause-full
returns-in-Ok-clause-full c = sym (ap is_some c.in-Some.ensures.taken)

pub returns-in-Err-clause-err : goal.returns-in-Err-clause-err
returns-in-Err-clause-err c = let a = c.args in λ unread belongs. c.in-Err.ensures.err
    (subst (λ (l : Lent). BelongsAt a.opening a.at a.kind l) (sym c.deref.ensures) (subst (λ held. IfSome held (BelongsAt a.opening a.at a.kind)) c.in-Some.ensures.taken belongs))

pub returns-in-Err-clause-why : goal.returns-in-Err-clause-why
returns-in-Err-clause-why c = let a = c.args in inr (c.in-Some.boxed.value, c.in-Some.ensures.taken, subst (λ (l : Lent). IsMisplaced a.opening a.at a.kind c.in-Err.fault l) c.deref.ensures c.in-Err.ensures.why)

pub returns-in-Ok-clause-kind : goal.returns-in-Ok-clause-kind
returns-in-Ok-clause-kind c = subst (λ held. IfSome held (λ l. kind_of l.part ≡ c.args.kind)) (sym c.in-Some.ensures.taken) (subst (λ (l : Lent). kind_of l.part ≡ c.args.kind) c.deref.ensures c.in-Ok.ensures.kind)

pub returns-in-Ok-clause-place : goal.returns-in-Ok-clause-place
returns-in-Ok-clause-place c = let a = c.args in
    subst (λ held. IsInPlace a.opening a.at held) (sym c.in-Some.ensures.taken) (subst (λ (l : Lent). (l.opening ≡ a.opening) × (l.at ≡ a.at)) c.deref.ensures c.in-Ok.ensures.place)

pub returns-in_default-clause-stays : goal.returns-in_default-clause-stays
returns-in_default-clause-stays c = record { held = c.take.ensures.empty ∙ sym c.in_default.ensures.none; reading = c.take.ensures.reading }

pub returns-in-Ok-clause-stays : goal.returns-in-Ok-clause-stays
returns-in-Ok-clause-stays c = record { held = c.put.ensures.full ∙ sym c.in-Some.ensures.taken; reading = c.put.ensures.reading ∙ c.take.ensures.reading }

pub returns-in-Err-clause-stays : goal.returns-in-Err-clause-stays
returns-in-Err-clause-stays c = record { held = c.put.ensures.full ∙ sym c.in-Some.ensures.taken; reading = c.put.ensures.reading ∙ c.take.ensures.reading }

pub returns-then-slot-ne0-clause-stays : goal.returns-then-slot-ne0-clause-stays
returns-then-slot-ne0-clause-stays c = record { held = refl; reading = refl }
