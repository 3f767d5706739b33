-- That what was accepted has run: docs/embedding.md, "In one thread".
use Rattle.std.specs.Prelude.{◌≡◌, ◌≢◌, ◌≤◌, ℕ, All}
use Rattle.rcu_part_control.specs.Barriers.{IsOver, count_at}
use Rattle.rcu_part_control.specs.Parts.{control_view}
use Rattle.rcu_jobs.specs.declared.Counts.{Counts}
use Rattle.rcu_jobs.specs.declared.Passed.{Passed}
use Rattle.rcu_part_processor.specs.declared.processor.Processor.{Processor}
use Rattle.rcu_parts.specs.OneOpen.{Parts, parts_board, processors_in}
use Rattle.rcu_runtime.specs.declared.any_fault.AnyFault.{AnyFault}
use Rattle.rcu_runtime.specs.declared.any_fault.AnyFault.TheVariants.{NotPassed, OtherBarrier}

-- Why turns made no barrier pass: it counts another number of processors than there are, or else the turns are over.
abbrev pub IsWhyNotPassed : (counted processors : ℕ) → AnyFault → Type 0
IsWhyNotPassed counted processors (OtherBarrier other) = counted ≢ processors
IsWhyNotPassed counted processors NotPassed = counted ≡ processors
IsWhyNotPassed counted processors fault = ⊥

module _ {J R : Type 0} where
  -- A barrier of these counts has passed: control saw that the claim of each callback that is counted had been finished.
  pub record HasPassed (counts : Counts) (passed : Passed) (parts : Parts J R) : Type 0 where
    pub counts_are : passed.counts ≡ counts
    pub over : IsOver counts (control_view parts.control)

  -- These counts have all that a processor accepted.
  abbrev pub IsCounted : Counts → Processor J R → Type 0
  IsCounted counts p = p.state.accepted ≤ count_at counts p.state.cpu

  -- All that was accepted so far has run: a barrier passed that counts what each processor accepted.
  pub record HasRunAll (parts : Parts J R) : Type 0 where
    pub counts : Counts
    pub many : counts.n ≡ (parts_board parts).processors
    pub counted : All (IsCounted counts) (processors_in parts)
    pub over : IsOver counts (control_view parts.control)
