use Rattle.rcu_world_processor.proofs.Sizes.{batch_fits}
use Rattle.rcu_world_processor.proofs.moves.WorldProcessor+J+J+Receipt.can_join.Goals as goal

pub is_spent-requires-after_bounds : goal.is_spent-requires-after_bounds
is_spent-requires-after_bounds g c κs within = batch_fits g.row.J g.row.J-Receipt assumption
