use Rattle.rcu_world_processor.specs.Views.{seen}
use Rattle.rcu_world_processor.proofs.Taking.{first_fits, parts_fit, parts_keys, rest_fits}
use Rattle.rcu_world_processor.proofs.Sizes.{batch_fits, bypass_fits}
use Rattle.rcu_world_processor.proofs.drain.WorldProcessor+J+J+Receipt.drain.Goals as goal

-- the room for what is left, part after part
pub take_joined-requires-after_bounds : goal.take_joined-requires-after_bounds
take_joined-requires-after_bounds g c κs within = let f0 = parts_fit (seen g.J.Job.key_of c.args.self.now) _ _ c.requires in
    (batch_fits g.row.J g.row.J-Receipt assumption, first_fits _ _ _ _ f0)

pub take_bypassed-requires-after_bounds : goal.take_bypassed-requires-after_bounds
take_bypassed-requires-after_bounds g c κs within = let f0 = parts_fit (seen g.J.Job.key_of c.args.self.now) _ _ c.requires in
    let f1 = rest_fits _ _ _ _ _ _ f0 c.take_joined.ensures.jobs.len c.take_joined.ensures.jobs.capacity in
    (batch_fits g.row.J g.row.J-Receipt assumption, (bypass_fits g.row.J g.row.J-Receipt assumption, first_fits _ _ _ _ f1))

pub take_waiting-requires-after_bounds : goal.take_waiting-requires-after_bounds
take_waiting-requires-after_bounds g c κs within =
    let f0 = parts_fit (seen g.J.Job.key_of c.args.self.now) _ _ c.requires in
    let f1 = rest_fits _ _ _ _ _ _ f0 c.take_joined.ensures.jobs.len c.take_joined.ensures.jobs.capacity in
    let f2 = rest_fits _ _ _ _ _ _ f1 c.take_bypassed.ensures.jobs.len c.take_bypassed.ensures.jobs.capacity in
    first_fits _ _ _ _ f2

pub take_last-requires-after_bounds : goal.take_last-requires-after_bounds
take_last-requires-after_bounds g c κs within =
    let f0 = parts_fit (seen g.J.Job.key_of c.args.self.now) _ _ c.requires in
    let f1 = rest_fits _ _ _ _ _ _ f0 c.take_joined.ensures.jobs.len c.take_joined.ensures.jobs.capacity in
    let f2 = rest_fits _ _ _ _ _ _ f1 c.take_bypassed.ensures.jobs.len c.take_bypassed.ensures.jobs.capacity in
    let f3 = rest_fits _ _ _ _ _ _ f2 c.take_waiting.ensures.jobs.len c.take_waiting.ensures.jobs.capacity in
    f3

pub returns-clause-keys : goal.returns-clause-keys
returns-clause-keys g c = parts_keys (seen g.J.Job.key_of c.args.self.now) _ _ _ _ _ c.take_joined.ensures.jobs.keys c.take_bypassed.ensures.jobs.keys c.take_waiting.ensures.jobs.keys c.take_last.ensures.keys
