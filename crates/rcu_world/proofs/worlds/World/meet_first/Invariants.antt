use Rattle.rcu_world.specs.Turns.{Leads, meets, upto}
use Rattle.rcu_world.specs.Views.{state}
use Rattle.rcu_world.specs.Stays.{StaysWorld}
use Rattle.rcu_world.proofs.worlds.World.meet_first.Given as goal

abbrev pub invariant-loop-cpu : goal.invariant-loop-cpu
invariant-loop-cpu g l = record {
  leads : Leads (state g.J.Job.key_of l.fn.self.core) (upto meets l.cpu (state g.J.Job.key_of l.fn.self.core)) (state g.J.Job.key_of l.self.core);
  stays : StaysWorld g.J.Job.key_of g.J.Job.gives l.fn.self.core l.self.core;
}
