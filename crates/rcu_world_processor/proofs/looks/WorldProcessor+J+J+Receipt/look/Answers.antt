use Rattle.std.proofs.Common.{rules}
use Rattle.rcu_world_processor.proofs.looks.WorldProcessor+J+J+Receipt.look.Goals as goal

pub returns : goal.returns
returns g c = record {
  step = record { made = search rules; given = search rules };
}
