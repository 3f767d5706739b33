-- What is shown of a processor. docs/specification/surface.md, "Shared answer types"
use Rattle.std.specs.Prelude.{length}
use Rattle.rcu_jobs.specs.declared.Lists.{Lists}
use Rattle.rcu_jobs.specs.declared.Lists.TheVariants as lists
use Rattle.rcu_world_law.specs.LabelledLists.{lengths_of, numbers_of}
use Rattle.rcu_world_law.specs.States.{Cpu}

-- a processor's own list, and the list that its group keeps for it
abbrev pub cpu_lists : Cpu → Lists
cpu_lists c = lists.Cpu c.mode c.count (length c.bypass) (lengths_of c.own) (numbers_of c.own)

abbrev pub folk_lists : Cpu → Lists
folk_lists c = lists.Folk (lengths_of c.joined) (numbers_of c.joined)
