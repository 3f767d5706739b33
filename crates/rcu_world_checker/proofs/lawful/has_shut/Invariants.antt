use Rattle.std.proofs.Common.{◌≡◌, ◌<◌, ℕ, Some}
use Rattle.std.specs.List.{slice_get}
use Rattle.rcu_world_law.specs.declared.marks.Mark.TheVariants.{Shut}
use Rattle.rcu_world_checker.proofs.lawful.has_shut.Given as goal

abbrev pub invariant-loop-mark : goal.invariant-loop-mark
invariant-loop-mark l = (i : ℕ) → i < l.mark-index → slice_get l.history i ≡ Some (Shut l.p) → ⊥
