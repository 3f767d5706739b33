-- What a run in threads does to parts: docs/specification/program.md, "threads".
use Rattle.std.specs.Prelude.{◌≡◌, ℕ, Err, Result, is_ok, true}
use Rattle.std.proofs.Common.{◌⊎◌}
use Rattle.std.specs.List.{AllZip}
use Rattle.rcu_part_control.specs.Parts.{control_view, SameControl, SameDriver}
use Rattle.rcu_parts.specs.OneOpen.{Parts, groups_in, hands_in, processors_in}
use Rattle.rcu_part_threads.specs.Barriers.{HaltsAfter, PassesAndHalts}
use Rattle.rcu_part_threads.specs.Parts.{GroupStays, HandStays}
use Rattle.rcu_part_threads.specs.Runs.{HasRun}
use Rattle.rcu_part_threads.specs.declared.fault.ThreadsFault.{ThreadsFault}

module _ {J R : Type 0} where
  -- All parts are the same parts, and of each processor all callbacks have run, by what control has seen; it passed one barrier,
  -- and set the halt word, once all have run and once more for all threads.
  pub record HaveRun (key_of : J → ℕ) (gives : ℕ → R → Type 0) (old new : Parts J R) : Type 0 where
    pub control : SameControl old.control new.control
    pub passes : HaltsAfter (PassesAndHalts old.control) new.control
    pub driver : SameDriver old.driver new.driver
    pub groups : AllZip GroupStays (groups_in old) (groups_in new)
    pub hands : AllZip (HandStays key_of gives) (hands_in old) (hands_in new)
    pub processors : AllZip (HasRun key_of gives (control_view new.control)) (processors_in old) (processors_in new)

-- the fault of the first of these four that has one: the driver's thread, the groups', the hands', and the calls
abbrev pub IsFirstFault : {D G H A : Type 0} → Result D ThreadsFault → Result G ThreadsFault → Result H ThreadsFault → Result A ThreadsFault → ThreadsFault → Type 0
IsFirstFault driver groups hands answered fault =
    (driver ≡ Err fault) ⊎ ((is_ok driver ≡ true) × ((groups ≡ Err fault)
    ⊎ ((is_ok groups ≡ true) × ((hands ≡ Err fault)
    ⊎ ((is_ok hands ≡ true) × (answered ≡ Err fault))))))
