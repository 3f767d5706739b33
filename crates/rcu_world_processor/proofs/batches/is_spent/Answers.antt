use Rattle.rcu_lists.specs.Batches.{batch_items}
use Rattle.rcu_world_processor.proofs.Paces.{nil_as}
use Rattle.rcu_world_processor.proofs.batches.is_spent.Goals as goal

pub is_empty-requires : goal.is_empty-requires
is_empty-requires g c = assumption

pub returns : goal.returns
returns g c = nil_as g.J.Job.key_of (batch_items c.args.some.now) c.is_empty.result c.is_empty.ensures
