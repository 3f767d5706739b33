use Rattle.rcu_world_processor.proofs.Sizes.{bypass_fits}
use Rattle.rcu_world_processor.proofs.presence.WorldProcessor+J+J+Receipt.can_leave.Goals as goal

pub is_clear-requires-after_bounds : goal.is_clear-requires-after_bounds
is_clear-requires-after_bounds g c κs within = bypass_fits g.row.J g.row.J-Receipt assumption
