-- What the checks at the end ask of the records of one processor.
use Rattle.std.specs.Prelude.{◌≡◌, ℕ, ◌≤◌, ◌++◌, List, Some, All, map, take}
use Rattle.std.specs.List.{slice_get}
use Rattle.rcu_numbers.specs.declared.sequence.TheConstants.{LAST_NUMBER}
use Rattle.rcu_jobs.specs.declared.callback.Record.{Record}
use Rattle.rcu_jobs.specs.declared.counts.Counts.{Counts}
use Rattle.rcu_numbers.specs.Numbers.{snap_of}
use Rattle.check_torture.specs.Retired.{version_of}
use Rattle.check_torture.specs.declared.retire.Retire.{Retire}

-- the records are numbered 0, 1, 2, ..
abbrev pub AreNumbered : List (Record ℕ) → Type 0
AreNumbered records = (i : ℕ) (r : Record ℕ) → slice_get records i ≡ Some r → r.number ≡ i

-- Each callback ran at a number for which it waited.
abbrev pub AreReady : List (Record ℕ) → Type 0
AreReady records = All (λ r. (r.stamp ≤ LAST_NUMBER) × (snap_of r.stamp ≤ r.ready)) records

-- at the place of each item stands its key
abbrev pub AreAt : {X : Type 0} → (X → ℕ) → List ℕ → List X → Type 0
AreAt {X} key keys items = (i : ℕ) (x : X) → slice_get items i ≡ Some x → slice_get keys i ≡ Some (key x)

-- the keys are those of the records, and then those of the jobs
abbrev pub AreKeyed : List ℕ → List (Record ℕ) → List Retire → Type 0
AreKeyed keys records jobs = keys ≡ map (λ r. r.key) records ++ map version_of jobs

-- so many callbacks of this processor are counted
abbrev pub IsCount : ℕ → ℕ → Counts → Type 0
IsCount cpu many counts = slice_get (take counts.n counts.counts) cpu ≡ Some many
