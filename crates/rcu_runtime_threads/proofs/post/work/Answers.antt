use Rattle.std.proofs.Common.{◌∙◌, subst}
use Rattle.rcu_runtime_threads.specs.Steps.{Does}
use Rattle.rcu_runtime_threads.specs.declared.acts.Acted.TheVariants as acted
use Rattle.rcu_runtime_threads.proofs.Acting.{ends_as_said, none_ends_unbegun}
use Rattle.rcu_runtime_threads.proofs.Sends.{sent_as}
use Rattle.rcu_runtime_threads.proofs.Steps.{works_again, works_itself}
use Rattle.rcu_runtime_threads.proofs.post.work.Goals as goal

pub act-requires-after_bounds : goal.act-requires-after_bounds
act-requires-after_bounds g c κs within = assumption

pub returns-in-Ends-clause-works : goal.returns-in-Ends-clause-works
returns-in-Ends-clause-works g c = works_again g.J.Job.key_of g.J.Job.gives c.args.processor.now c.loop.processor c.act.new.processor c.loop.invariant.works c.act.ensures.works

pub returns-in-Ends-clause-ended : goal.returns-in-Ends-clause-ended
returns-in-Ends-clause-ended g c = ends_as_said g.J.Job.key_of g.W.Worker.ends_as c.loop.processor c.act.new.processor c.step-step.new.self c.act.new.worker c.step-step.result c.in-Ends.end c.step-step.ensures.ends c.in-Ends.ensures.does c.in-Ends.ensures.only_read

pub returns-in-Ends-clause-name : goal.returns-in-Ends-clause-name
returns-in-Ends-clause-name g c = c.act.ensures.name ∙ (c.step-step.ensures.name ∙ c.loop.invariant.name)

pub loop-preserved : goal.loop-preserved
loop-preserved g c = record { next = tt; finite = tt; name = c.act.ensures.name ∙ (c.step-step.ensures.name ∙ c.loop.invariant.name); works = works_again g.J.Job.key_of g.J.Job.gives c.args.processor.now c.loop.processor c.act.new.processor c.loop.invariant.works c.act.ensures.works }

pub returns-in-Ends-clause-begun : goal.returns-in-Ends-clause-begun
returns-in-Ends-clause-begun g c = λ none. none_ends_unbegun g.J.Job.key_of c.step-step.result c.loop.processor c.act.new.processor
    (subst (λ e. Does g.J.Job.key_of c.step-step.result (acted.Ends e) c.loop.processor c.act.new.processor) none c.in-Ends.ensures.does)

pub cpu-requires-send-J : goal.cpu-requires-send-J
cpu-requires-send-J g c κs within = c.type_bounds.send-J

pub cpu-requires-send-J-Receipt : goal.cpu-requires-send-J-Receipt
cpu-requires-send-J-Receipt g c κs within = sent_as 3 1 g.row.J-Receipt c.type_bounds.send-J-Receipt

pub cpu-requires-after_bounds : goal.cpu-requires-after_bounds
cpu-requires-after_bounds g c κs within = assumption

pub act-requires-send-J : goal.act-requires-send-J
act-requires-send-J g c κs within = c.type_bounds.send-J

pub act-requires-send-W : goal.act-requires-send-W
act-requires-send-W g c κs within = c.type_bounds.send-W

pub act-requires-send-J-Receipt : goal.act-requires-send-J-Receipt
act-requires-send-J-Receipt g c κs within = sent_as 3 2 g.row.J-Receipt c.type_bounds.send-J-Receipt

pub loop-init : goal.loop-init
loop-init g c = record { next = tt; finite = tt; name = c.begin.ensures; works = works_itself g.J.Job.key_of g.J.Job.gives c.args.processor.now }

pub unreachable-requires : goal.unreachable-requires
unreachable-requires g c = let z = c.in-None.ensures.steps in cc
