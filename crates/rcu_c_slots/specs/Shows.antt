-- What parts in slots show.
use Rattle.std.specs.Prelude.{◌≡◌, ℕ, ◌+◌, Option, None, Some, Result, slice_get}
use Rattle.std.specs.Global.{Vec}
use Rattle.std.specs.Option.{ok_or}
use Rattle.std.specs.declared.result.Result.TheVariants.{Err, Ok}
use Rattle.rcu_part_lists.specs.ProcessorLists.{cpu_lists}
use Rattle.rcu_jobs.specs.declared.Lists.{Lists}
use Rattle.rcu_jobs.specs.declared.callback.Record.{Record}
use Rattle.rcu_c_slots.specs.Parts.{wrong_kind}
use Rattle.rcu_c_slots.specs.Processors.{state_of}
use Rattle.rcu_c_slots.specs.declared.fault.Fault.{Fault}
use Rattle.rcu_c_slots.specs.declared.fault.Fault.TheVariants.{NoneLeft, NoProcessor}
use Rattle.rcu_c_slots.specs.declared.job.ForeignJob.{ForeignJob}
use Rattle.rcu_c_slots.specs.declared.part.Part.{Part}
use Rattle.rcu_c_slots.specs.declared.part.Part.TheVariants.{Closed, Processor}
use Rattle.rcu_part_processor.specs.InPlace.{lists_in}

-- ---- what a processor shows, whether or not a callback of it runs

-- so many callbacks as it accepted
abbrev pub accepted_by : Part → Result ℕ Fault
accepted_by (Processor p) = Ok (state_of p).accepted
accepted_by part = Err (wrong_kind part)

-- so many as are left of its limit
abbrev pub IsLeft : Result ℕ Fault → (limit accepted : ℕ) → Type 0
IsLeft result limit accepted = (n : ℕ) × (result ≡ Ok n) × (n + accepted ≡ limit)

abbrev pub lists_by : Part → Result Lists Fault
lists_by (Processor p) = Ok (cpu_lists (state_of p).accepted (lists_in (state_of p)))
lists_by part = Err (wrong_kind part)

abbrev pub ShowsAccepted : Result ℕ Fault → Part → Type 0
ShowsAccepted result part = result ≡ accepted_by part

abbrev pub ShowsLeft : Result ℕ Fault → Part → Type 0
ShowsLeft result (Processor p) = IsLeft result (state_of p).limit (state_of p).accepted
ShowsLeft result part = result ≡ Err (wrong_kind part)

abbrev pub ShowsLists : Result Lists Fault → Part → Type 0
ShowsLists result part = result ≡ lists_by part

-- ---- what is left of a runtime that was closed

-- what is in place `at` of a list, where there is one
abbrev pub in_place : {X : Type 0} → ℕ → Option (Vec X) → Result X Fault
in_place at None = Err NoProcessor
in_place at (Some xs) = ok_or (slice_get xs.items at) NoneLeft

-- the record of a callback of processor p that ran, and the job of one that didn't
abbrev pub ran_in : ℕ → ℕ → Part → Result (Record ForeignJob) Fault
ran_in p at (Closed c) = in_place at (slice_get c.ran.items p)
ran_in p at part = Err (wrong_kind part)

abbrev pub back_in : ℕ → ℕ → Part → Result ForeignJob Fault
back_in p at (Closed c) = in_place at (slice_get c.back.items p)
back_in p at part = Err (wrong_kind part)

-- how many counted reports processor p made
abbrev pub reports_in : ℕ → Part → Result ℕ Fault
reports_in p (Closed c) = ok_or (slice_get c.reports.items p) NoProcessor
reports_in p part = Err (wrong_kind part)

abbrev pub ShowsRan : ℕ → ℕ → Result (Record ForeignJob) Fault → Part → Type 0
ShowsRan p at result part = result ≡ ran_in p at part

abbrev pub ShowsBack : ℕ → ℕ → Result ForeignJob Fault → Part → Type 0
ShowsBack p at result part = result ≡ back_in p at part

abbrev pub ShowsReports : ℕ → Result ℕ Fault → Part → Type 0
ShowsReports p result part = result ≡ reports_in p part

-- ---- by slots

-- The part is shown, and the slot has what it had.
abbrev pub OnlyShows : {A : Type 0} → (Result A Fault → Part → Type 0) → Result A Fault → Part → Part → Type 0
OnlyShows Shows result old new = Shows result old × (new ≡ old)
