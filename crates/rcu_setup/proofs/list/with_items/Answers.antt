use Rattle.std.proofs.Common.{◌≡◌, ℕ, ◌+◌, ◌<◌, List, length, get_or, drop, sym, ap, ◌∙◌, arith, lit<, Result, Some, None}
use Rattle.std.proofs.lemmas.Iterator.Splits.{YieldsList-from_str_split}
use Rattle.std.proofs.lemmas.Iterator.Consumers.{YieldsList-turn, YieldsList-end}
use Rattle.std.proofs.lemmas.List.{at_drop_more, at_drop_all, length_push}
use Rattle.std.proofs.lemmas.Result.{err_from_is_err_and}
use Rattle.rcu_setup.specs.Faults.{Fault, ◌>>◌}
use Rattle.rcu_setup.specs.List.{Range, range_of, with_parts, with_range, with_range_at}
use Rattle.rcu_setup.proofs.Steps.{fault_passes}
use Rattle.rcu_setup.specs.Words.{parts}
use Rattle.rcu_setup.proofs.list.with_items.Goals as goal

with_parts-drop : (n mask : ℕ) (all : List (List ℕ)) (k : ℕ) (part : List ℕ) → (k < length all) × (part ≡ get_or all k part) → with_parts n mask (drop k all) ≡ (with_range_at n mask (range_of part) >> (λ wider. with_parts n wider (drop (k + 1) all)))
with_parts-drop n mask all k part h =
    at_drop_more (with_parts n mask) all k part h.0
    ∙ ap (λ p. with_range_at n mask (range_of p) >> (λ wider. with_parts n wider (drop (k + 1) all))) (sym h.1)

-- the part is an item: what comes of the whole
with_parts-item : (n mask : ℕ) (all : List (List ℕ)) (k : ℕ) (part : List ℕ) (r : Range) (whole : Result ℕ Fault) → with_parts n mask (drop k all) ≡ whole → (k < length all) × (part ≡ get_or all k part) → range_of part ≡ Some r → whole ≡ (with_range n mask r >> (λ wider. with_parts n wider (drop (k + 1) all)))
with_parts-item n mask all k part r whole invariant h found = sym invariant ∙ with_parts-drop n mask all k part h ∙ rw found

pub returns-in_default-clause-answer : goal.returns-in_default-clause-answer
returns-in_default-clause-answer c =
    let t = YieldsList-turn (YieldsList-from_str_split 44 c.args.text.now (lit< tt) (cc) (cc) (cc)) c.loop-part.yielded _ c.loop-part.yielded_by _ _ c.in-Some.part c.in-Some.is c.next.ensures.steps in
    let e = with_parts-drop c.args.n c.loop-part.mask _ _ _ t in
    let none : range_of c.in-Some.part.now ≡ None = sym c.range_of.ensures ∙ c.in_default.is in
    sym c.loop-part.invariant ∙ e ∙ rw none

pub returns-in_err-mask-clause-answer : goal.returns-in_err-mask-clause-answer
returns-in_err-mask-clause-answer c =
    let p = err_from_is_err_and c.from_residual.result c.from_residual.ensures.1 in
    let t = YieldsList-turn (YieldsList-from_str_split 44 c.args.text.now (lit< tt) (cc) (cc) (cc)) c.loop-part.yielded _ c.loop-part.yielded_by _ _ c.in-Some.part c.in-Some.is c.next.ensures.steps in
    let is = with_parts-item c.args.n c.loop-part.mask _ _ _ c.in-Some-range_of.range _ c.loop-part.invariant t (sym c.range_of.ensures ∙ c.in-Some-range_of.is) in
    rw (p.1, p.2) (fault_passes c.in_err-mask.field-0.0 _ _ _ is c.in_err-mask.ensures.answer)

pub loop-part-preserved : goal.loop-part-preserved
loop-part-preserved c =
    let t = YieldsList-turn (YieldsList-from_str_split 44 c.args.text.now (lit< tt) (cc) (cc) (cc)) c.loop-part.yielded _ c.loop-part.yielded_by _ _ c.in-Some.part c.in-Some.is c.next.ensures.steps in
    let is = with_parts-item c.args.n c.loop-part.mask _ _ _ c.in-Some-range_of.range _ c.loop-part.invariant t (sym c.range_of.ensures ∙ c.in-Some-range_of.is) in
    rw (length_push c.loop-part.yielded c.in-Some.part) (sym (rw c.in_ok-mask.ensures.answer at is))

pub returns-clause-answer : goal.returns-clause-answer
returns-clause-answer c =
    let t = YieldsList-end (YieldsList-from_str_split 44 c.args.text.now (lit< tt) (cc) (cc) (cc)) c.loop-part.yielded _ c.loop-part.yielded_by _ _ c.in-None.is c.next.ensures.steps in
    sym c.loop-part.invariant ∙ at_drop_all (with_parts c.args.n c.loop-part.mask) (parts 44 c.args.text.now) (length c.loop-part.yielded) (omega (arith, t.1))
