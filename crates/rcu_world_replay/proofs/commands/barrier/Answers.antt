use Rattle.std.proofs.Common.{rules}
use Rattle.rcu_world_replay.proofs.commands.barrier.Goals as goal

pub returns-in_default : goal.returns-in_default
returns-in_default g c = record {
  answers = record {
    line = search rules;
    stays = c.barrier.ensures.events.stays;
  };
}

pub returns : goal.returns
returns g c = record {
  answers = record {
    line = search rules;
    stays = c.barrier.ensures.events.stays;
  };
}
