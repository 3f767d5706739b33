use Rattle.std.proofs.Common.{◌∙◌, ap, subst, sym}
use Rattle.rcu_runtime.specs.Runtimes.{IsDrained, accepted_in}
use Rattle.rcu_runtime.specs.Ends.{ClosesWhole}
use Rattle.rcu_parts.proofs.Draining.{drained_none_back}
use Rattle.rcu_runtime.specs.Settled.{HasRunAll}
use Rattle.rcu_runtime.proofs.Settles.{run_none_back}
use Rattle.rcu_runtime.proofs.Accounting.{closes_whole, have_receipts, none_lost}
use Rattle.rcu_runtime.proofs.end.Whole+AllParts+Processor+J+Group+J+Hand+J.close_or_drop.Goals as goal

pub returns-in-Ok-clause-closes : goal.returns-in-Ok-clause-closes
returns-in-Ok-clause-closes g c = subst (λ whole. ClosesWhole g.J.Job.key_of g.J.Job.gives whole c.in-Ok.closed) c.into_parts.ensures.parts (closes_whole g.J.Job.key_of g.J.Job.gives c.into_parts.result c.in-Ok.closed c.into_parts.ensures.whole.1.close c.in-Ok.ensures.closes)

pub returns-in-Ok-clause-none_lost : goal.returns-in-Ok-clause-none_lost
returns-in-Ok-clause-none_lost g c = none_lost g.J.Job.key_of g.J.Job.gives c.into_parts.result c.in-Ok.closed (closes_whole g.J.Job.key_of g.J.Job.gives c.into_parts.result c.in-Ok.closed c.into_parts.ensures.whole.1.close c.in-Ok.ensures.closes) ∙ ap (λ whole. accepted_in whole) c.into_parts.ensures.parts

pub returns-in-Ok-clause-receipts : goal.returns-in-Ok-clause-receipts
returns-in-Ok-clause-receipts g c = have_receipts g.J.Job.key_of g.J.Job.gives c.into_parts.result c.in-Ok.closed (closes_whole g.J.Job.key_of g.J.Job.gives c.into_parts.result c.in-Ok.closed c.into_parts.ensures.whole.1.close c.in-Ok.ensures.closes)

pub returns-in-Ok-clause-drained : goal.returns-in-Ok-clause-drained
returns-in-Ok-clause-drained g c = λ drained. let own = c.into_parts.result in let d = subst (λ whole. IsDrained whole) (sym c.into_parts.ensures.parts) drained in
    drained_none_back d.0 own d.1 c.in-Ok.closed c.into_parts.ensures.whole.1.close.one c.in-Ok.ensures.accounts

pub returns-in-Ok-clause-run : goal.returns-in-Ok-clause-run
returns-in-Ok-clause-run g c = λ run. let own = c.into_parts.result in let r = subst (λ whole. HasRunAll whole) (sym c.into_parts.ensures.parts) run in
    run_none_back own c.in-Ok.closed r c.into_parts.ensures.whole.1.close.one c.in-Ok.ensures.accounts

pub into_parts-requires-room-A-Wholeness : goal.into_parts-requires-room-A-Wholeness
into_parts-requires-room-A-Wholeness g c κs within = assumption

pub into_parts-requires-room-A-Wholeness-2 : goal.into_parts-requires-room-A-Wholeness-2
into_parts-requires-room-A-Wholeness-2 g c κs within = assumption

pub into_parts-requires-room-A-Wholeness-3 : goal.into_parts-requires-room-A-Wholeness-3
into_parts-requires-room-A-Wholeness-3 g c κs within = assumption

pub close-requires-send-J : goal.close-requires-send-J
close-requires-send-J g c κs within = c.type_bounds.send-J

pub close-requires-send-J-Receipt : goal.close-requires-send-J-Receipt
close-requires-send-J-Receipt g c κs within = c.type_bounds.send-J-Receipt

pub close-requires-clause-parts : goal.close-requires-clause-parts
close-requires-clause-parts g c κs within = (assumption, (assumption, (assumption, c.into_parts.ensures.whole.1.close.one)))

pub drop-requires-room-T-Destruct : goal.drop-requires-room-T-Destruct
drop-requires-room-T-Destruct g c κs within = assumption

pub drop-requires-in-Err-3-room-T-Destruct : goal.drop-requires-in-Err-3-room-T-Destruct
drop-requires-in-Err-3-room-T-Destruct g c κs within = assumption

pub drop-requires-in-Err-4-room-T-Destruct : goal.drop-requires-in-Err-4-room-T-Destruct
drop-requires-in-Err-4-room-T-Destruct g c κs within = assumption
