use Rattle.std.proofs.Common.{◌≡◌}
use Rattle.rcu_world.specs.Polls.{turns_for}
use Rattle.rcu_world.specs.Turns.{Leads, upto}
use Rattle.rcu_world.specs.Views.{state}
use Rattle.rcu_world.specs.Stays.{StaysWorld}
use Rattle.rcu_world.proofs.worlds.World.see_all.Given as goal

abbrev pub invariant-loop-place : goal.invariant-loop-place
invariant-loop-place g l = record {
  leads : Leads (state g.J.Job.key_of l.fn.self.core) (upto (turns_for l.barrier) l.place (state g.J.Job.key_of l.fn.self.core)) (state g.J.Job.key_of l.self.core);
  history : (state g.J.Job.key_of l.self.core).history ≡ (state g.J.Job.key_of l.fn.self.core).history;
  stays : StaysWorld g.J.Job.key_of g.J.Job.gives l.fn.self.core l.self.core;
}
