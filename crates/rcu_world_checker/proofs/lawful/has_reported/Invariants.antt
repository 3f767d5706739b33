use Rattle.std.proofs.Common.{◌≡◌, ◌<◌, ℕ, Some}
use Rattle.std.specs.List.{slice_get}
use Rattle.rcu_world_law.specs.declared.marks.Mark.TheVariants.{Reported}
use Rattle.rcu_world_checker.proofs.lawful.has_reported.Given as goal

abbrev pub invariant-loop-place : goal.invariant-loop-place
invariant-loop-place l = (i : ℕ) → l.after < i → i < l.place → slice_get l.history i ≡ Some (Reported l.q) → ⊥
