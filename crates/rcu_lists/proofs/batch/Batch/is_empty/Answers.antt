use Rattle.rcu_lists.specs.Batches.{batch_items}
use Rattle.rcu_lists.proofs.Rooms.{none-iff}
use Rattle.rcu_lists.proofs.batch.Batch.is_empty.Goals as goal

pub returns : goal.returns
returns g c = none-iff (batch_items c.args.self.now) c.len.result c.len.ensures
