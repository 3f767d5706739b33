use Rattle.std.proofs.Common.{◌≡◌, ◌<◌, ℕ, Some, length}
use Rattle.std.specs.List.{slice_get}
use Rattle.rcu_world_law.specs.declared.marks.Mark.TheVariants.{Opened}
use Rattle.rcu_world_checker.specs.Fits.{HaveRun}
use Rattle.rcu_world_checker.proofs.lawful.is_over.Given as goal

abbrev pub invariant-loop-place : goal.invariant-loop-place
invariant-loop-place l = (o : ℕ) → o < l.place → slice_get l.history o ≡ Some (Opened l.b) → HaveRun l.history o (length l.history)
