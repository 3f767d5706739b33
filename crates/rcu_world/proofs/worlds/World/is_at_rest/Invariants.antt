use Rattle.std.proofs.Common.{ℕ, ◌<◌}
use Rattle.rcu_world_law.specs.States.{cpu_at}
use Rattle.rcu_world.specs.Turns.{IsIdle}
use Rattle.rcu_world.specs.Views.{state}
use Rattle.rcu_world.proofs.worlds.World.is_at_rest.Given as goal

abbrev pub invariant-loop-cpu : goal.invariant-loop-cpu
invariant-loop-cpu g l = (p : ℕ) → p < l.cpu → IsIdle (cpu_at (state g.J.Job.key_of l.self.core) p)
