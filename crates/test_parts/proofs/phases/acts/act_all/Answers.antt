use Rattle.rcu_lists.proofs.Outcomes.{if_ok_never}
use Rattle.test_parts.proofs.Keeping.{processors_again, processors_none}
use Rattle.test_parts.proofs.phases.acts.act_all.Goals as goal

pub loop-step-init : goal.loop-step-init
loop-step-init g c = processors_none g.J.Job.key_of g.J.Job.gives c.args.callers.processors.items

pub loop-step-preserved-in-Continue-1 : goal.loop-step-preserved-in-Continue-1
loop-step-preserved-in-Continue-1 g c = let e = c.act_at.ensures in
    processors_again g.J.Job.key_of g.J.Job.gives c.args.callers.processors.items c.loop-step.processors.items c.act_at.new.processors.items c.loop-step.invariant (record { same = e.same; sound = e.sound })

pub act_at-requires-send-J : goal.act_at-requires-send-J
act_at-requires-send-J g c κs within = c.type_bounds.send-J

pub act_at-requires-after_bounds : goal.act_at-requires-after_bounds
act_at-requires-after_bounds g c κs within = assumption

pub drop-processors-requires-room-T-Destruct : goal.drop-processors-requires-room-T-Destruct
drop-processors-requires-room-T-Destruct g c κs within = assumption

pub returns-in_err-push-in-On : goal.returns-in_err-push-in-On
returns-in_err-push-in-On g c = if_ok_never _ _ c.from_residual.ensures

pub loop-step-preserved-in-Sign : goal.loop-step-preserved-in-Sign
loop-step-preserved-in-Sign g c = c.loop-step.invariant

pub loop-step-preserved : goal.loop-step-preserved
loop-step-preserved g c = c.loop-step.invariant

pub returns : goal.returns
returns g c = c.loop-step.invariant
