use Rattle.std.proofs.Common.{◌≡◌, ◌*◌, ◌≤◌}
use Rattle.rcu_world.specs.GroupTurns.{waiting_upto}
use Rattle.rcu_world.specs.Views.{state}
use Rattle.rcu_world.proofs.worlds.World.waiting.Given as goal

abbrev pub invariant-loop-cpu : goal.invariant-loop-cpu
invariant-loop-cpu g l = record {
  sum : l.waiting ≡ waiting_upto l.group l.cpu (state g.J.Job.key_of l.self.core);
  most : l.waiting ≤ l.cpu * 1000000;
}
