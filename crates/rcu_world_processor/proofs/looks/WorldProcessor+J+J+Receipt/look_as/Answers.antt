use Rattle.std.proofs.Common.{rules}
use Rattle.rcu_world_processor.proofs.looks.WorldProcessor+J+J+Receipt.look_as.Goals as goal

pub returns-then-member : goal.returns-then-member
returns-then-member g c = record {
  step = record { made = search rules; given = search rules };
}

pub returns-else-member : goal.returns-else-member
returns-else-member g c = record {
  step = record { made = search rules; given = search rules };
}
