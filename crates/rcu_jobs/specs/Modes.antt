-- The modes of a processor: docs/specification/rules.md, "Modes".
use Rattle.std.specs.Prelude.{Bool, true, false, if◌then◌else◌}
use Rattle.rcu_jobs.specs.declared.modes.Mode.{Mode}
use Rattle.rcu_jobs.specs.declared.modes.Mode.TheVariants.{Local, Offloading, Offloaded, Deoffloading}

abbrev pub is_local : Mode → Bool
is_local Local = true
is_local Offloading = false
is_local Offloaded = false
is_local Deoffloading = false

abbrev pub is_offloading : Mode → Bool
is_offloading Local = false
is_offloading Offloading = true
is_offloading Offloaded = false
is_offloading Deoffloading = false

abbrev pub is_offloaded : Mode → Bool
is_offloaded Local = false
is_offloaded Offloading = false
is_offloaded Offloaded = true
is_offloaded Deoffloading = false

abbrev pub is_deoffloading : Mode → Bool
is_deoffloading Local = false
is_deoffloading Offloading = false
is_deoffloading Offloaded = false
is_deoffloading Deoffloading = true

-- the mode in which a processor starts
abbrev pub first_mode : Bool → Mode
first_mode offloadable = if offloadable then Offloaded else Local
