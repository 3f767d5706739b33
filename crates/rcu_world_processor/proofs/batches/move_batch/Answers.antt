use Rattle.rcu_world_processor.proofs.Rooms.{not_so}
use Rattle.rcu_world_processor.proofs.batches.move_batch.Goals as goal

pub take_batch-requires-after_bounds : goal.take_batch-requires-after_bounds
take_batch-requires-after_bounds g c κs within = (assumption, not_so _ c.requires)
