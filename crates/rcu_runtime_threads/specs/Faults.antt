-- What comes back of a run that wasn't made as it was asked for.
use Rattle.std.specs.Prelude.{◌≡◌, ◌≢◌, ℕ, Bool, true, false, List, [], length}
use Rattle.rcu_parts.specs.OneOpen.{Parts}
use Rattle.rcu_runtime.specs.declared.any_fault.AnyFault.{AnyFault}
use Rattle.rcu_runtime.specs.declared.any_fault.AnyFault.TheVariants as any_fault
use Rattle.rcu_runtime_threads.specs.declared.fault.WorkersFault.{WorkersFault}
use Rattle.rcu_runtime_threads.specs.declared.fault.WorkersFault.TheVariants.{Memory, OtherNumber, NoThread, NotDrained}
use Rattle.rcu_runtime_threads.specs.declared.run.Ending.{Ending}
use Rattle.rcu_runtime_threads.specs.declared.run.Ending.TheVariants.{AtOnce}
use Rattle.rcu_runtime_threads.specs.declared.worker.WorkerEnd.{WorkerEnd}

-- nothing was started: there was no memory, or there are more or fewer workers than processors
abbrev pub IsEarly : ℕ → ℕ → WorkersFault → Type 0
IsEarly processors workers Memory = workers ≡ processors
IsEarly processors workers (OtherNumber n m) = (n ≡ processors) × (m ≡ workers) × (processors ≢ workers)
IsEarly processors workers NoThread = ⊥
IsEarly processors workers NotDrained = ⊥

-- threads were started: some part had none, or all had one, and not all has run that was asked for
abbrev pub IsLate : (has_begun : Bool) → Ending → WorkersFault → Type 0
IsLate has_begun ending Memory = ⊥
IsLate has_begun ending (OtherNumber n m) = ⊥
IsLate has_begun ending NoThread = has_begun ≡ false
IsLate has_begun ending NotDrained = (has_begun ≡ true) × (ending ≢ AtOnce)

-- Why a run wasn't made as it was asked for: one of the two, and the numbers are named exactly where they differ.
abbrev pub IsWhy : (processors workers : ℕ) → Ending → WorkersFault → Type 0
IsWhy processors workers ending Memory = workers ≡ processors
IsWhy processors workers ending (OtherNumber n m) = (n ≡ processors) × (m ≡ workers) × (processors ≢ workers)
IsWhy processors workers ending NoThread = workers ≡ processors
IsWhy processors workers ending NotDrained = (workers ≡ processors) × (ending ≢ AtOnce)

-- how each worker ended, where threads were started
abbrev pub HaveEnded : WorkersFault → ℕ → List WorkerEnd → Type 0
HaveEnded Memory workers ends = ends ≡ []
HaveEnded (OtherNumber n m) workers ends = ends ≡ []
HaveEnded NoThread workers ends = length ends ≡ workers
HaveEnded NotDrained workers ends = length ends ≡ workers

-- the same fault, as that of any call
abbrev pub IsToldAs : WorkersFault → AnyFault → Type 0
IsToldAs Memory fault = fault ≡ any_fault.Memory record {}
IsToldAs (OtherNumber processors workers) fault = fault ≡ any_fault.OtherNumber processors workers
IsToldAs NoThread fault = fault ≡ any_fault.NoThread
IsToldAs NotDrained fault = fault ≡ any_fault.NotDrained

-- the fault of any call that is one of a run of so many processors and workers with this ending
abbrev pub IsOfRun : (processors workers : ℕ) → Ending → AnyFault → Type 0
IsOfRun processors workers ending fault = (why : WorkersFault) × IsWhy processors workers ending why × IsToldAs why fault

module _ {J R W : Type 0} where
  -- Where nothing was started, the runtime and the workers come back as they were.
  abbrev pub ComesBack : WorkersFault → Parts J R → Parts J R → List W → List W → Type 0
  ComesBack Memory old new workers back = (new ≡ old) × (back ≡ workers)
  ComesBack (OtherNumber n m) old new workers back = (new ≡ old) × (back ≡ workers)
  ComesBack NoThread old new workers back = Unit {0}
  ComesBack NotDrained old new workers back = Unit {0}
