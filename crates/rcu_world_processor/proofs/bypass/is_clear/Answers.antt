use Rattle.rcu_lists.specs.Bypasses.{bypass_items}
use Rattle.rcu_world_processor.proofs.Paces.{nil_as}
use Rattle.rcu_world_processor.proofs.bypass.is_clear.Goals as goal

pub returns : goal.returns
returns g c = nil_as g.J.Job.key_of (bypass_items c.args.bypass.now) c.is_empty.result c.is_empty.ensures
