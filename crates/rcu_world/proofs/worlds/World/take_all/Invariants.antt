use Rattle.std.proofs.Common.{◌*◌, ◌≤◌}
use Rattle.rcu_world.specs.GroupTurns.{Takes, Made, Upto}
use Rattle.rcu_world.specs.Views.{state}
use Rattle.rcu_world.specs.Stays.{StaysWorld}
use Rattle.rcu_world.proofs.worlds.World.take_all.Given as goal

abbrev pub invariant-loop-cpu : goal.invariant-loop-cpu
invariant-loop-cpu g l = record {
  made : Made (Upto (Takes l.group) l.cpu) (state g.J.Job.key_of l.fn.self.core) (state g.J.Job.key_of l.self.core) l.took 0;
  most : l.took ≤ l.cpu * 64000000;
  stays : StaysWorld g.J.Job.key_of g.J.Job.gives l.fn.self.core l.self.core;
}
