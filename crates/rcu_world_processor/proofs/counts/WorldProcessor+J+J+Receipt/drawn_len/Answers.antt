use Rattle.rcu_world_processor.proofs.Sizes.{batch_fits}
use Rattle.rcu_world_processor.proofs.counts.WorldProcessor+J+J+Receipt.drawn_len.Goals as goal

pub batch_len-requires-after_bounds : goal.batch_len-requires-after_bounds
batch_len-requires-after_bounds g c κs within = batch_fits g.row.J g.row.J-Receipt assumption
