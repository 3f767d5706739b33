use Rattle.rcu_world.specs.Turns.{IsAtRest}
use Rattle.rcu_world.specs.Views.{state}
use Rattle.rcu_world.specs.Worlds.{IsWorld}
use Rattle.rcuo_picture.specs.Keys.{IsKey, key_in}
use Rattle.rcuo_picture.proofs.runs.play.Given as goal

abbrev pub invariant-loop-command : goal.invariant-loop-command
invariant-loop-command l = record {
  world : IsWorld key_in IsKey l.world.core;
  rest : IsAtRest (state key_in l.world.core);
}
