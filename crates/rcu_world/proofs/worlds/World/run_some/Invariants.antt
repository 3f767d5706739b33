use Rattle.std.proofs.Common.{◌≡◌, ◌≤◌, ◌<◌, ◌-◌, length}
use Rattle.rcu_world.specs.Turns.{IsAtRest, Leads, run_events}
use Rattle.rcu_world.specs.Views.{state}
use Rattle.rcu_world.specs.Stays.{KeepsWorld}
use Rattle.rcu_world.proofs.worlds.World.run_some.Given as goal

abbrev pub invariant-loop-ran : goal.invariant-loop-ran
invariant-loop-ran g l = record {
  leads : Leads (state g.J.Job.key_of l.fn.self.core) (run_events l.cpu l.by l.ran) (state g.J.Job.key_of l.self.core);
  most : l.ran ≤ l.blimit;
  same : l.self.core.blimit ≡ l.blimit;
  there : l.cpu < length (state g.J.Job.key_of l.self.core).cpus;
  rest : IsAtRest (state g.J.Job.key_of l.self.core);
  keeps : KeepsWorld g.J.Job.key_of g.J.Job.gives l.fn.self.core l.self.core;
}

abbrev pub decreases-loop-ran : goal.decreases-loop-ran
decreases-loop-ran g l = l.blimit - l.ran
