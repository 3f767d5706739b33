use Rattle.rcu_world_processor.proofs.tick.WorldProcessor+J+J+Receipt.moment_of_tick.Goals as goal

pub is_late-requires-after_bounds : goal.is_late-requires-after_bounds
is_late-requires-after_bounds g c κs within = assumption
