use Rattle.std.proofs.Common.{◌≡◌, length}
use Rattle.rcu_world_law.specs.States.{barrier_at}
use Rattle.rcu_world.specs.Polls.{HasKept}
use Rattle.rcu_world.specs.Views.{state}
use Rattle.rcu_world.proofs.worlds.World.kept_counts.Given as goal

abbrev pub invariant-loop-cpu : goal.invariant-loop-cpu
invariant-loop-cpu g l = record {
  all : l.counts.n ≡ length (state g.J.Job.key_of l.self.core).cpus;
  len : length l.counts.counts ≡ 1024;
  each : HasKept (barrier_at (state g.J.Job.key_of l.self.core) l.barrier) l.cpu l.counts.counts;
}
