use Rattle.rcu_world.specs.Turns.{Leads, counts_for, upto}
use Rattle.rcu_world.specs.Views.{state}
use Rattle.rcu_world.specs.Stays.{StaysWorld}
use Rattle.rcu_world.proofs.worlds.World.count_all.Given as goal

abbrev pub invariant-loop-cpu : goal.invariant-loop-cpu
invariant-loop-cpu g l = record {
  leads : Leads (state g.J.Job.key_of l.fn.self.core) (upto (counts_for l.barrier) l.cpu (state g.J.Job.key_of l.fn.self.core)) (state g.J.Job.key_of l.self.core);
  stays : StaysWorld g.J.Job.key_of g.J.Job.gives l.fn.self.core l.self.core;
}
