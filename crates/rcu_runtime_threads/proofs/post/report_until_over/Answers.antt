use Rattle.rcu_runtime_threads.proofs.Sends.{sent_as}
use Rattle.rcu_runtime_threads.proofs.Steps.{works_again, works_itself}
use Rattle.rcu_runtime_threads.proofs.post.report_until_over.Goals as goal

pub loop-preserved : goal.loop-preserved
loop-preserved g c = let t = c.report_and_tick-has_moved in
    record { next = tt; finite = tt; works = works_again g.J.Job.key_of g.J.Job.gives c.args.processor.now c.loop.processor t.new.processor c.loop.invariant.works t.ensures.works }

pub report_and_tick-has_moved-requires-after_bounds : goal.report_and_tick-has_moved-requires-after_bounds
report_and_tick-has_moved-requires-after_bounds g c κs within = assumption

pub report_and_tick-has_moved-requires-send-J : goal.report_and_tick-has_moved-requires-send-J
report_and_tick-has_moved-requires-send-J g c κs within = c.type_bounds.send-J

pub report_and_tick-has_moved-requires-send-J-Receipt : goal.report_and_tick-has_moved-requires-send-J-Receipt
report_and_tick-has_moved-requires-send-J-Receipt g c κs within = sent_as 2 1 g.row.J-Receipt c.type_bounds.send-J-Receipt

pub loop-init : goal.loop-init
loop-init g c = record { next = tt; finite = tt; works = works_itself g.J.Job.key_of g.J.Job.gives c.args.processor.now }

pub returns-then-is_over : goal.returns-then-is_over
returns-then-is_over g c = c.loop.invariant.works

pub unreachable-requires : goal.unreachable-requires
unreachable-requires g c = let z = c.in-None.ensures.steps in cc
