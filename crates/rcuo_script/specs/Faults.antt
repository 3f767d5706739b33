-- Which fault a run may end with: docs/specification/tables.md, "Fault lines".
use Rattle.std.specs.Prelude.{◌≡◌, Result, IfErr, OnOk}
use Rattle.std.proofs.Common.{◌⊎◌}
use Rattle.rcu_setup.specs.declared.fault.SetupFault.TheVariants.{Memory}
use Rattle.rcuo_script.specs.declared.fault.Fault.{Fault}
use Rattle.rcuo_script.specs.declared.fault.Fault.TheVariants.{CannotWrite, Setup}

-- a growth was refused
abbrev pub IsWantOfMemory : Fault → Type 0
IsWantOfMemory fault = fault ≡ Setup Memory

-- a growth was refused, or a write failed
abbrev pub IsFaultOfOutput : Fault → Type 0
IsFaultOfOutput fault = IsWantOfMemory fault ⊎ (fault ≡ CannotWrite)

-- What is so once an output has written; and where it failed, a growth was refused, or a write failed.
pub record Outputs (result : Result (Unit {0}) Fault) (Written : Type 0) : Type 0 where
  pub written : OnOk result Written
  pub why : IfErr result IsFaultOfOutput
