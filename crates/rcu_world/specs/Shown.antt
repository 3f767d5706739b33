-- What is shown of a world. docs/specification/surface.md, "Shared answer types"
use Rattle.std.specs.Prelude.{ℕ, Option, Some, None, if◌then◌else◌}
use Rattle.rcu_jobs.specs.declared.Lists.{Lists}
use Rattle.rcu_world_law.specs.States.{State, cpu_at, is_offloadable}
use Rattle.rcu_world_processor.specs.Shown.{folk_lists}

-- the list that a group keeps for a processor, where that is offloadable
abbrev pub group_lists : State → ℕ → Option Lists
group_lists w p = if is_offloadable w p then Some (folk_lists (cpu_at w p)) else None
