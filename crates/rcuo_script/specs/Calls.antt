-- The commands of a script. Call lines: docs/specification/program.md, "Route table".
use Rattle.std.specs.Prelude.{ℕ, Bool, true, false, List, Option, Some, None, string_bytes}
use Rattle.std.specs.Option.{is_some}
use Rattle.rcu_setup.specs.declared.line.Command.{Command}
use Rattle.rcu_setup.specs.declared.line.Command.TheVariants as command

-- the name and the hop that a call, plain or lazy, sets in the next version
abbrev pub route_in : Command → Option (List ℕ × ℕ)
route_in (command.Call cpu moment name hop) = Some (string_bytes name, hop)
route_in (command.Lazy cpu moment name hop) = Some (string_bytes name, hop)
route_in (command.Quiet cpu) = None
route_in (command.Tick cpu moment) = None
route_in command.Driver = None
route_in (command.Group group) = None
route_in (command.Hand cpu) = None
route_in (command.Offload cpu) = None
route_in (command.Deoffload cpu) = None
route_in (command.Leave cpu) = None
route_in (command.Return cpu) = None
route_in command.Barrier = None
route_in command.Poll = None
route_in command.Shut = None
route_in command.Show = None

-- a call, plain or lazy
abbrev pub is_call : Command → Bool
is_call c = is_some (route_in c)

-- `show`, which alone prints more than one line
abbrev pub is_show : Command → Bool
is_show command.Show = true
is_show c = false

-- `barrier` and `poll`, which alone change which barrier is open
abbrev pub is_barrier : Command → Bool
is_barrier command.Barrier = true
is_barrier command.Poll = true
is_barrier c = false
