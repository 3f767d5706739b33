use Rattle.std.proofs.Common.{◌≡◌, ◌<◌, [], ◌∷◌, ◌++◌, append-nil, ap, sym, ◌∙◌, length, get_or, subst, ◌≤◌}
use Rattle.rcu_part_threads.specs.Dealing.{tickets_in}
use Rattle.rcu_part_threads.proofs.Answering.{tickets_next}
use Rattle.rcu_lists.proofs.Outcomes.{on_ok_never}
use Rattle.std.proofs.lemmas.List.{take_all}
use Rattle.rcu_part_threads.proofs.callers.keep.Goals as goal
use Rattle.rcu_part_threads.proofs.callers.keep.Goals.{in-Ok+in_ok-push, in_default}

pub loop-answer-preserved : goal.loop-answer-preserved
loop-answer-preserved g c =
    let l = c.loop-answer in let all = c.args.one.answers.items in let value = c.deref-answer-items.ensures.value in let a = c.answer-item.result in
    let before = l.tickets.items in
    let low : l.answer-index < length all = subst (λ xs. l.answer-index < length xs) value c.loop-answer-test.true in
    let is : get_or all l.answer-index a ≡ a = sym (c.answer-item.is ∙ ap (λ xs. get_or xs l.answer-index a) value) in
    let next = tickets_next all l.answer-index a before c.args.tickets.now.items low is l.invariant in
    elim c.match-answer.branch [
      | in-Ok+in_ok-push w ↦ ap (λ v. v.items) w.tickets-is ∙ (w.in_ok-push.ensures.items ∙ (ap (λ r. before ++ tickets_in (r ∷ [])) (sym w.in-Ok.is) ∙ next))
      | in_default w ↦ ap (λ v. v.items) w.tickets-is ∙ (sym (append-nil before) ∙ (ap (λ r. before ++ tickets_in (r ∷ [])) (sym w.in_default.is) ∙ next))
    ]

pub loop-answer-init : goal.loop-answer-init
loop-answer-init g c = sym (append-nil c.args.tickets.now.items)

pub offset_bounds-answer-items-answer-index : goal.offset_bounds-answer-items-answer-index
offset_bounds-answer-items-answer-index g c = c.loop-answer.auto.answer-index-end

pub returns-in_err-push-clause-called : goal.returns-in_err-push-clause-called
returns-in_err-push-clause-called g c = on_ok_never _ _ c.from_residual.ensures

pub returns-in_err-push-clause-tickets : goal.returns-in_err-push-clause-tickets
returns-in_err-push-clause-tickets g c = on_ok_never _ _ c.from_residual.ensures

pub returns-in_err-push-2-clause-called : goal.returns-in_err-push-2-clause-called
returns-in_err-push-2-clause-called g c = on_ok_never _ _ c.from_residual-in_err-push-2.ensures

pub returns-in_err-push-2-clause-tickets : goal.returns-in_err-push-2-clause-tickets
returns-in_err-push-2-clause-tickets g c = on_ok_never _ _ c.from_residual-in_err-push-2.ensures

pub returns-clause-called : goal.returns-clause-called
returns-clause-called g c = c.in_ok-push-2.ensures.items

pub returns-clause-tickets : goal.returns-clause-tickets
returns-clause-tickets g c = let all = c.args.one.answers.items in let l = c.loop-answer in
    let done = subst (λ xs. length xs ≤ l.answer-index) c.deref-answer-items.ensures.value c.loop-answer-test.false in
    l.invariant ∙ ap (λ xs. c.args.tickets.now.items ++ tickets_in xs) (take_all l.answer-index all done)
