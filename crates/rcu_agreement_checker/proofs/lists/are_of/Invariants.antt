use Rattle.std.proofs.Common.{◌≡◌, ℕ, ◌<◌, Some}
use Rattle.std.specs.List.{slice_get}
use Rattle.rcu_world_law.specs.declared.marks.Mark.{Mark}
use Rattle.rcu_agreement_checker.specs.Lists.{IsOf}
use Rattle.rcu_agreement_checker.proofs.lists.are_of.Given as goal

abbrev pub invariant-loop-mark : goal.invariant-loop-mark
invariant-loop-mark l = (i : ℕ) (m : Mark) → i < l.mark-index → slice_get l.history i ≡ Some m → IsOf l.many m
