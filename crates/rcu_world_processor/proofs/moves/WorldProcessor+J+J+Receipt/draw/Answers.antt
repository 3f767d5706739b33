use Rattle.std.proofs.Common.{rules}
use Rattle.rcu_world_processor.proofs.Sizes.{batch_fits}
use Rattle.rcu_world_processor.proofs.moves.WorldProcessor+J+J+Receipt.draw.Goals as goal

pub move_batch-requires-after_bounds : goal.move_batch-requires-after_bounds
move_batch-requires-after_bounds g c κs within = (batch_fits g.row.J g.row.J-Receipt assumption, c.requires)

pub returns : goal.returns
returns g c = record {
  step = record { made = search rules; given = search rules };
}
