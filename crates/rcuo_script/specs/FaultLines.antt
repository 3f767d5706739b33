-- The lines of the faults: docs/specification/tables.md, "Fault lines".
use Rattle.std.specs.Prelude.{ℕ, List, ◌++◌, codes}
use Rattle.rcu_setup.specs.Faults.{setup_fault_text}
use Rattle.rcuo_script.specs.declared.fault.Fault.{Fault}
use Rattle.rcuo_script.specs.declared.fault.Fault.TheVariants as fault

abbrev pub fault_text : Fault → List ℕ
fault_text (fault.Setup f) = setup_fault_text f
fault_text fault.CannotRead = codes "19: cannot read input"
fault_text fault.CannotWrite = codes "20: cannot write output"
fault_text fault.CannotRun = codes "21: cannot run threads"

-- a fault's whole line
abbrev pub fault_line : Fault → List ℕ
fault_line f = codes "fault " ++ (fault_text f ++ codes "\n")
