use Rattle.std.proofs.Common.{◌∙◌, ap, subst, sym}
use Rattle.rcu_runtime.specs.Runtimes.{CanClose, IsDrained, accepted_in}
use Rattle.rcu_runtime.specs.Ends.{ClosesWhole}
use Rattle.rcu_parts.proofs.Draining.{drained_none_back}
use Rattle.rcu_runtime.proofs.Accounting.{closes_whole, have_receipts, none_lost}
use Rattle.rcu_runtime.proofs.closing.Whole+AllClosing+Processor+J+Group+J+Hand+J.again.Goals as goal

pub returns-in-Ok-clause-closes : goal.returns-in-Ok-clause-closes
returns-in-Ok-clause-closes g c = subst (λ whole. ClosesWhole g.J.Job.key_of g.J.Job.gives whole.parts c.in-Ok.closed) c.into_parts.ensures.parts (closes_whole g.J.Job.key_of g.J.Job.gives c.into_parts.result.parts c.in-Ok.closed c.into_parts.ensures.whole.1 c.in-Ok.ensures.closes)

pub returns-in-Ok-clause-none_lost : goal.returns-in-Ok-clause-none_lost
returns-in-Ok-clause-none_lost g c = none_lost g.J.Job.key_of g.J.Job.gives c.into_parts.result.parts c.in-Ok.closed (closes_whole g.J.Job.key_of g.J.Job.gives c.into_parts.result.parts c.in-Ok.closed c.into_parts.ensures.whole.1 c.in-Ok.ensures.closes) ∙ ap (λ whole. accepted_in whole.parts) c.into_parts.ensures.parts

pub returns-in-Ok-clause-receipts : goal.returns-in-Ok-clause-receipts
returns-in-Ok-clause-receipts g c = have_receipts g.J.Job.key_of g.J.Job.gives c.into_parts.result.parts c.in-Ok.closed (closes_whole g.J.Job.key_of g.J.Job.gives c.into_parts.result.parts c.in-Ok.closed c.into_parts.ensures.whole.1 c.in-Ok.ensures.closes)

pub returns-in-Ok-clause-drained : goal.returns-in-Ok-clause-drained
returns-in-Ok-clause-drained g c = λ drained. let own = c.into_parts.result.parts in let d = subst (λ whole. IsDrained whole.parts) (sym c.into_parts.ensures.parts) drained in
    drained_none_back d.0 own d.1 c.in-Ok.closed c.into_parts.ensures.whole.1.one c.in-Ok.ensures.accounts

pub into_parts-requires-room-A-Wholeness : goal.into_parts-requires-room-A-Wholeness
into_parts-requires-room-A-Wholeness g c κs within = assumption

pub into_parts-requires-room-A-Wholeness-2 : goal.into_parts-requires-room-A-Wholeness-2
into_parts-requires-room-A-Wholeness-2 g c κs within = assumption

pub into_parts-requires-room-A-Wholeness-3 : goal.into_parts-requires-room-A-Wholeness-3
into_parts-requires-room-A-Wholeness-3 g c κs within = assumption

pub again-requires-send-J : goal.again-requires-send-J
again-requires-send-J g c κs within = c.type_bounds.send-J

pub again-requires-send-J-Receipt : goal.again-requires-send-J-Receipt
again-requires-send-J-Receipt g c κs within = c.type_bounds.send-J-Receipt

pub again-requires-clause-parts : goal.again-requires-clause-parts
again-requires-clause-parts g c κs within = (assumption, (assumption, (assumption, c.into_parts.ensures.whole.1.one)))

pub invariant_of-result : goal.invariant_of-result
invariant_of-result g c = subst (CanClose g.J.Job.key_of g.J.Job.gives) (sym c.in-Err.ensures.left) c.into_parts.ensures.whole.1

pub returns-in-Err-clause-left : goal.returns-in-Err-clause-left
returns-in-Err-clause-left g c = c.in-Err.ensures.left ∙ ap (λ whole. whole.parts) c.into_parts.ensures.parts
