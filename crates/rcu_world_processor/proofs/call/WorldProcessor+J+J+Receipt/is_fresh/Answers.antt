use Rattle.std.proofs.Common.{not, ap}
use Rattle.rcu_world_processor.proofs.call.WorldProcessor+J+J+Receipt.is_fresh.Goals as goal

pub returns : goal.returns
returns g c = ap not c.is_vacant.ensures
