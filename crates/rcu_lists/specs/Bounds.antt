-- A list of callbacks that is cut by its bounds: docs/specification/rules.md, "Callback lists".
use Rattle.std.specs.Prelude.{◌+◌, ◌≤◌, List, length}
use Rattle.rcu_jobs.specs.declared.callback.Callback.{Callback}
use Rattle.rcu_lists.specs.Cut.{cut}
use Rattle.rcu_lists.specs.Labels.{Labelled}
use Rattle.rcu_lists.specs.declared.bounds.Bounds.{Bounds}

module _ {J : Type 0} where
  abbrev pub cut_by : Bounds → List (Callback J) → List (Labelled J)
  cut_by b cs = cut b.done b.wait b.ready b.wait_number b.ready_number cs

  -- the list is as long as its first three segments
  abbrev pub IsWithin : Bounds → List (Callback J) → Type 0
  IsWithin b cs = b.done + b.wait + b.ready ≤ length cs
