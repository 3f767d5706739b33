use Rattle.std.proofs.Common.{◌≡◌, ◌+◌, count_by, take}
use Rattle.std.specs.VecDeque.{deque_len}
use Rattle.rcuo_script.specs.Calls.{is_call}
use Rattle.rcu_world.specs.Turns.{IsAtRest}
use Rattle.rcu_world.specs.Views.{state}
use Rattle.rcu_world.specs.Worlds.{IsWorld}
use Rattle.rcu_world_replay.specs.Printed.{Prints}
use Rattle.rcuo_script.proofs.Scripts.{HasPrinted}
use Rattle.rcu_world_replay.proofs.script.perform_all.Given as goal

abbrev pub invariant-loop-command : goal.invariant-loop-command
invariant-loop-command g l = record {
  world : IsWorld g.J.Job.key_of g.J.Job.gives l.world.core;
  rest : IsAtRest (state g.J.Job.key_of l.world.core);
  printed : HasPrinted (Prints g.J.Job.key_of) (state g.J.Job.key_of l.fn.world.core) l.setup.script.items l.fn.jobs.items (g.W.Write.contents l.fn.writer) l.left.items (g.W.Write.contents l.writer) l.command-index (state g.J.Job.key_of l.world.core) l.opened;
  jobs : deque_len l.left + count_by is_call (take l.command-index l.setup.script.items) ≡ count_by is_call l.setup.script.items;
}
