use Rattle.std.proofs.Common.{rules}
use Rattle.rcu_world.proofs.Wholes.{if_ok_never}
use Rattle.rcu_world_replay.proofs.commands.driver.Goals as goal

pub returns-in_err-driver_turn : goal.returns-in_err-driver_turn
returns-in_err-driver_turn g c = record {
  answers = record {
    line = if_ok_never _ _ c.from_residual.ensures;
    stays = c.driver_turn.ensures.events.stays;
  };
}

pub returns : goal.returns
returns g c = record {
  answers = record {
    line = search rules;
    stays = c.driver_turn.ensures.events.stays;
  };
}
