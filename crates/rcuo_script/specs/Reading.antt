-- What is taken from a reader, and which fault is named: docs/specification/program.md, "Command line".
use Rattle.std.specs.Prelude.{◌≡◌, ◌≤◌, ◌<◌, ◌++◌, ◌⊎◌, ℕ, List, Option, Bool, true, false, Result, Err, MatchResult, IfSome, length, ⊤}
use Rattle.std.specs.Io.KnownBytes.{Consumes, IsAtEnd}
use Rattle.std.specs.Str.{IsUtf8}
use Rattle.rcuo_script.specs.declared.fault.Fault.{Fault}
use Rattle.rcuo_script.specs.declared.fault.Fault.TheVariants.{Setup, CannotRead, CannotWrite, CannotRun}
use Rattle.rcu_setup.specs.Faults.{named, not_toml}
use Rattle.rcu_setup.specs.Setup.{setup_of}
use Rattle.rcu_setup.specs.declared.fault.SetupFault.TheVariants.{Memory}

-- no more than so many bytes were taken from what a reader had
abbrev pub TakesAtMost : ℕ → Option (List ℕ) → Option (List ℕ) → Type 0
TakesAtMost most old new = (bytes : List ℕ) × Consumes old new bytes × (length bytes ≤ most)

-- a piece was taken, which an `Ok` adds to the text; a false says that the end was met
abbrev pub TakesPiece : {E : Type 0} → Option (List ℕ) → Option (List ℕ) → List ℕ → List ℕ → ℕ → Result Bool E → Type 0
TakesPiece old new text longer most result =
    (bytes : List ℕ) × Consumes old new bytes × (length bytes ≤ most)
    × MatchResult result (λ more. (longer ≡ text ++ bytes) × (more ≡ false → IsAtEnd new) × (more ≡ true → 0 < length bytes)) (λ _. ⊤)

-- a read failed, or a growth was refused
abbrev pub IsFailedRead : Fault → Type 0
IsFailedRead f = (f ≡ CannotRead) ⊎ (f ≡ Setup Memory)

-- The fault is that of these bytes: the one of their setup, or that they are no text. A failed read and want of memory may stand
-- in its place.
abbrev pub IsFaultOf : List ℕ → Fault → Type 0
IsFaultOf bytes (Setup f) = IfSome (named f) (λ it. (setup_of bytes ≡ Err it) ⊎ ((it ≡ not_toml) × ¬ (IsUtf8 bytes)))
IsFaultOf bytes CannotRead = ⊤
IsFaultOf bytes CannotWrite = ⊥
IsFaultOf bytes CannotRun = ⊥
