-- What a group wants for one of its members
use Rattle.std.specs.Prelude.{ℕ, Bool, not, None, if◌then◌else◌}
use Rattle.rcu_world_law.specs.States.{Cpu}
use Rattle.rcu_world_law.specs.Lists.{is_none, needed_with}

abbrev pub is_wanting : Cpu → Bool
is_wanting c = not (is_none c.group_wanted)

-- what is wanted for a member is asked for
abbrev pub forgets : Cpu → Cpu
forgets c = record c { group_wanted = None }

-- the greater of a number and what is wanted for a member
abbrev pub most_with : Bool → ℕ → Cpu → ℕ
most_with member most c = if member then needed_with most c.group_wanted else most
