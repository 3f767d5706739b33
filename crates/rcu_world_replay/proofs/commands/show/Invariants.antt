use Rattle.std.specs.Io.KnownBytes.{Appends}
use Rattle.rcu_world.specs.Views.{state}
use Rattle.rcu_world_replay.specs.Outcomes.{shown}
use Rattle.rcu_world_replay.proofs.commands.show.Given as goal

abbrev pub invariant-loop-cpu : goal.invariant-loop-cpu
invariant-loop-cpu g l = Appends (g.W.Write.contents l.fn.writer) (g.W.Write.contents l.writer) (shown l.cpu (state g.J.Job.key_of l.world.core))
