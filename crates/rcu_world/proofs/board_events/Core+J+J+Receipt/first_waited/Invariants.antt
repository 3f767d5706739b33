use Rattle.std.proofs.Common.{◌≡◌, ◌<◌, ℕ, false}
use Rattle.rcu_world.specs.Turns.{waits_for}
use Rattle.rcu_world.specs.Views.{state}
use Rattle.rcu_world.proofs.board_events.Core+J+J+Receipt.first_waited.Given as goal

abbrev pub invariant-loop-cpu : goal.invariant-loop-cpu
invariant-loop-cpu g l = (q : ℕ) → q < l.cpu → waits_for (state g.J.Job.key_of l.self) q ≡ false
