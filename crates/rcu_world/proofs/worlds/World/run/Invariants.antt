use Rattle.std.proofs.Common.{◌≡◌, length, vec_len, vec_capacity, ◌≤◌}
use Rattle.rcu_world.specs.Events.{Runs}
use Rattle.rcu_world.specs.Views.{state}
use Rattle.rcu_world.specs.Worlds.{IsWorld}
use Rattle.rcu_world.proofs.worlds.World.run.Given as goal

abbrev pub invariant-loop-event : goal.invariant-loop-event
invariant-loop-event g l = record {
  runs : Runs g.J.Job.key_of (state g.J.Job.key_of l.fn.self.core) l.yielded l.answers.items (state g.J.Job.key_of l.self.core);
  kept : IsWorld g.J.Job.key_of g.J.Job.gives l.self.core;
  len : vec_len l.answers ≡ length l.yielded;
  room : length l.fn.events.items ≤ vec_capacity l.answers;
}
