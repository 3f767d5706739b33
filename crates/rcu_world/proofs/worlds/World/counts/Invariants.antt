use Rattle.std.proofs.Common.{◌≡◌, ◌<◌, ℕ, length}
use Rattle.std.specs.Prelude.{slice_index}
use Rattle.rcu_world_law.specs.States.{cpu_at}
use Rattle.rcu_world.specs.Views.{state}
use Rattle.rcu_world.proofs.worlds.World.counts.Given as goal

abbrev pub invariant-loop-cpu : goal.invariant-loop-cpu
invariant-loop-cpu g l = record {
  all : l.counts.n ≡ length (state g.J.Job.key_of l.self.core).cpus;
  len : length l.counts.counts ≡ 1024;
  each : (p : ℕ) → p < l.cpu → slice_index l.counts.counts p ≡ (cpu_at (state g.J.Job.key_of l.self.core) p).count;
}
