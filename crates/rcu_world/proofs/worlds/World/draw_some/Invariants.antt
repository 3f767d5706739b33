use Rattle.std.proofs.Common.{◌*◌, ◌<◌, ◌≤◌, length}
use Rattle.rcu_world.specs.Views.{state}
use Rattle.rcu_world.specs.Stays.{StaysWorld}
use Rattle.rcu_world.proofs.Drawing.{Drawn}
use Rattle.rcu_world.proofs.worlds.World.draw_some.Given as goal

abbrev pub invariant-loop-batch : goal.invariant-loop-batch
invariant-loop-batch g l = record {
  drawn : Drawn l.cpu l.batch (state g.J.Job.key_of l.fn.self.core) (state g.J.Job.key_of l.self.core) l.took;
  most : l.took ≤ l.batch * 1000000;
  there : l.cpu < length (state g.J.Job.key_of l.self.core).cpus;
  stays : StaysWorld g.J.Job.key_of g.J.Job.gives l.fn.self.core l.self.core;
}
