use Rattle.std.proofs.Common.{ap, arith, length, ◌≡◌, ◌∙◌}
use Rattle.rcu_c_slots.specs.Gathers.{lent_of}
use Rattle.rcu_c_slots.specs.Runs.{ForeignHand, lent_hand}
use Rattle.rcu_c_slots.specs.Opens.{lent_hands}
use Rattle.rcu_c_slots.specs.declared.part.Part.TheVariants as part
use Rattle.rcu_lists.proofs.Outcomes.{if_ok_never}
use Rattle.rcu_c_slots.proofs.Boxing.{boxed_all, boxed_more, boxed_none}
use Rattle.rcu_c_slots.proofs.Jobs.{hand_fits, job_sends, receipt_sends}
use Rattle.rcu_c_slots.proofs.opening.box_hands.Goals as goal

pub loop-part-init : goal.loop-part-init
loop-part-init c = boxed_none c.args.opening (λ (h : ForeignHand). h.state.hand.cpu) (λ h. part.Hand (lent_hand h)) c.new-boxes.result.items c.into_iter-part-iterator.result.rest.items c.args.parts.items c.new-boxes.ensures.items c.into_iter-part-iterator.ensures.into_iter_gives.0

pub loop-part-preserved : goal.loop-part-preserved
loop-part-preserved c = let l = c.loop-part in let o = c.args.opening in let x = c.in-Some.part in
    boxed_more o (λ (h : ForeignHand). h.state.hand.cpu) (λ h. part.Hand (lent_hand h)) l.boxes.items c.push_back.new.self.items c.in_ok-box_part.field-0 x l.part-iterator.rest.items c.next.new.self.rest.items (lent_hands o c.args.parts.items)
    c.in_ok-push_back.ensures.items (c.in_ok-box_part.ensures ∙ (ap (λ l. lent_of o c.cpu-at.result (part.Hand l)) c.new.ensures ∙ ap (λ n. lent_of o n (part.Hand (lent_hand x))) c.cpu-at.ensures)) c.in-Some.ensures.steps.0 l.invariant

pub returns-in_err-box_part : goal.returns-in_err-box_part
returns-in_err-box_part c = if_ok_never _ _ c.from_residual.ensures

pub returns-in_err-push_back : goal.returns-in_err-push_back
returns-in_err-push_back c = if_ok_never _ _ c.from_residual-in_err-push_back.ensures

pub returns : goal.returns
returns c = let l = c.loop-part in let rest = l.part-iterator.rest in let ended = c.in-None.ensures.steps.0 in let many = rest.ok.0 in let none : length rest.items ≡ 0 = omega (arith, ended, many) in
    boxed_all c.args.opening (λ (h : ForeignHand). h.state.hand.cpu) (λ h. part.Hand (lent_hand h)) l.boxes.items rest.items (lent_hands c.args.opening c.args.parts.items) none l.invariant

pub cpu-at-requires-send-J : goal.cpu-at-requires-send-J
cpu-at-requires-send-J c κs = job_sends

pub cpu-at-requires-send-J-Receipt : goal.cpu-at-requires-send-J-Receipt
cpu-at-requires-send-J-Receipt c κs = receipt_sends

pub cpu-at-requires-after_bounds : goal.cpu-at-requires-after_bounds
cpu-at-requires-after_bounds c κs = hand_fits
