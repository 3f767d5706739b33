use Rattle.rcu_world_processor.proofs.Sizes.{batch_fits}
use Rattle.rcu_world_processor.proofs.claims.WorldProcessor+J+J+Receipt.can_claim_held.Goals as goal

pub can_claim_first_held-requires-after_bounds : goal.can_claim_first_held-requires-after_bounds
can_claim_first_held-requires-after_bounds g c κs within = (batch_fits g.row.J g.row.J-Receipt assumption, c.requires)
