use Rattle.std.proofs.Common.{ap, map, sym, subst}
use Rattle.rcu_world_processor.specs.Batches.{batches, law_pace, pace}
use Rattle.rcu_world_processor.specs.Views.{run}
use Rattle.rcu_jobs.specs.Records.{Given}
use Rattle.rcu_world_processor.specs.Waits.{calls, waits}
use Rattle.rcu_world_processor.proofs.Opening.{none_ran, opens_as}
use Rattle.rcu_world_processor.proofs.Sizes.{batch_fits, bypass_fits}
use Rattle.rcu_world_processor.proofs.processor.WorldProcessor+J+J+Receipt.new.Goals as goal

pub new-requires-4 : goal.new-requires-4
new-requires-4 g c = batch_fits g.row.J g.row.J-Receipt assumption

pub new-requires-6 : goal.new-requires-6
new-requires-6 g c = batch_fits g.row.J g.row.J-Receipt assumption

pub new-requires-8 : goal.new-requires-8
new-requires-8 g c = batch_fits g.row.J g.row.J-Receipt assumption

pub returns-clause-opens : goal.returns-clause-opens
returns-clause-opens g c = let k = g.J.Job.key_of in
    opens_as c.args.offloadable _ _ _ _ _ _ _ _ _ (pace c.new-2.result) _ (ap (waits k) c.new.ensures.list) (ap (waits k) c.new-5.ensures.list) (ap (calls k) c.new-2.ensures.items) (ap (calls k) c.new-4.ensures.items)
    (ap (calls k) c.new-6.ensures.items) (ap (calls k) c.new-8.ensures.items) (ap (batches k) c.new-3.ensures.items) (ap (batches k) c.new-7.ensures.items) (ap (map run) c.new-9.ensures.items) (ap law_pace c.new-2.ensures.pace) c.first.ensures

pub returns-clause-given : goal.returns-clause-given
returns-clause-given g c = (subst (Given g.J.Job.gives) (sym c.new-9.ensures.items) (none_ran g.J.Job.gives), c.new-2.ensures.qhimark)

pub new-requires-2 : goal.new-requires-2
new-requires-2 g c = bypass_fits g.row.J g.row.J-Receipt assumption
