use Rattle.rcu_world_processor.proofs.Sizes.{bypass_fits}
use Rattle.rcu_world_processor.proofs.tick.WorldProcessor+J+J+Receipt.is_late.Goals as goal

pub is_late-requires-after_bounds : goal.is_late-requires-after_bounds
is_late-requires-after_bounds g c κs within = bypass_fits g.row.J g.row.J-Receipt assumption
