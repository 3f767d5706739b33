-- What an export answers and does: docs/c.md, "Answers".
use Rattle.std.specs.Prelude.{◌≡◌, ℕ, Bool, cond, Result, IfOk, is_some}
use Rattle.std.specs.declared.result.Result.TheVariants.{Ok, Err}
use Rattle.std.proofs.Common.{◌⊎◌}
use Rattle.rcu_c.specs.Words.{AreCountsOf, AreTurnWords, IsShapeOf, limit_of, offloadable_of, records_kept}
use Rattle.rcu_c.specs.declared.words.CountWords.{CountWords}
use Rattle.rcu_c.specs.declared.words.DriverWords.{DriverWords}
use Rattle.rcu_c.specs.declared.words.Settings.{Settings}
use Rattle.rcu_jobs.specs.declared.Counts.{Counts}
use Rattle.rcu_jobs.specs.declared.DriverTurn.{DriverTurn}
use Rattle.rcu_jobs.specs.declared.DriverTurn.TheVariants.{Spent}
use Rattle.rcu_c_slots.specs.Barriers.{PollsPart}
use Rattle.rcu_c_slots.specs.Faults.{fault_number}
use Rattle.rcu_c_slots.specs.Gathers.{Closes, ClosesAgain, RefusesClose, RefusesEnd}
use Rattle.rcu_c_slots.specs.Opens.{OpensInto, RefusesOpen}
use Rattle.rcu_c_slots.specs.Others.{DriverTurnsBy}
use Rattle.rcu_c_slots.specs.Refusals.{IsWhyNotClosed}
use Rattle.rcu_c_slots.specs.Shows.{OnlyShows}
use Rattle.rcu_c_slots.specs.Slots.{OnSlot}
use Rattle.rcu_c_slots.specs.declared.fault.Fault.{Fault}
use Rattle.rcu_c_slots.specs.declared.fault.Fault.TheVariants.{Memory, Shape as OfShape}
use Rattle.rcu_c_slots.specs.declared.job.ForeignJob.{ForeignJob}
use Rattle.rcu_c_slots.specs.declared.part.Part.{Part}
use Rattle.rcu_c_slots.specs.declared.slot.PartSlots.{PartSlots}
use Rattle.rcu_c_slots.specs.declared.slot.Slot.{Slot}
use Rattle.rcu_numbers.specs.Limits.{IsWithinPartsLimits}
use Rattle.rcu_numbers.specs.declared.parts_shape.PartsShape.{PartsShape}
use Rattle.rcu_lists.specs.declared.pace.Kind.{Kind}
use Rattle.rcu_lists.specs.declared.pace.Kind.TheVariants.{Lazy, Plain}

-- 0, or the number of a fault
abbrev pub answer_of : {A : Type 0} → Result A Fault → ℕ
answer_of (Ok x) = 0
answer_of (Err fault) = fault_number fault

-- A call on the slot's part was made, and its answer is told: what it gave by the words that the caller handed in.
pub record Tells {A : Type 0} (By : Result A Fault → Part → Part → Type 0) (Gives : A → Type 0) (answer : ℕ) (old new : Slot) : Type 0 where
  pub result : Result A Fault
  pub does : OnSlot By result old new
  pub answer_is : answer ≡ answer_of result
  pub gives : IfOk result Gives

-- The same of a call that only shows something of the slot's part.
abbrev pub TellsShown : {A : Type 0} → (Result A Fault → Part → Type 0) → (A → Type 0) → ℕ → Slot → Slot → Type 0
TellsShown Shows Gives answer old new = Tells (OnlyShows Shows) Gives answer old new

-- Nothing was called, and this fault says why.
pub record Refuses (fault : Fault) (answer : ℕ) (old new : Slot) : Type 0 where
  pub named : answer ≡ fault_number fault
  pub stays : new ≡ old

-- A poll of the barrier that these words say was made, and its answer is told.
pub record TellsPoll (barrier : CountWords) (passed : Bool) (answer : ℕ) (old new : Slot) : Type 0 where
  pub counts : Counts
  pub are : AreCountsOf barrier counts
  pub tells : Tells (PollsPart counts) (λ found. passed ≡ is_some found) answer old new

-- a plain call, or a lazy one
abbrev pub kind_of_call : Bool → Kind
kind_of_call lazy = cond lazy Lazy Plain

-- a job by its words
abbrev pub job_of : ℕ → ℕ → ℕ → ForeignJob
job_of key function argument = record { key = key; function = function; argument = argument }

-- The slots have all parts of a new runtime of these settings, under this number, each in its place.
pub record OpensBy (settings : Settings) (number : ℕ) (slots : PartSlots) : Type 0 where
  pub shape : PartsShape
  pub is : IsShapeOf settings shape
  pub opens : OpensInto (records_kept settings.records) shape number slots

-- Each setting is within its limits; and one is outside.
abbrev pub IsInside : Settings → Type 0
IsInside s = IsWithinPartsLimits s.processors (offloadable_of s) s.stride s.blimit s.qhimark (limit_of s)

abbrev pub IsOutside : Settings → Type 0
IsOutside s = IsInside s → ⊥

-- Why nothing was opened: a setting is outside its limits; or all are within, and a slot has a part, or memory was refused.
abbrev pub RefusesOpenBy : Settings → ℕ → PartSlots → Type 0
RefusesOpenBy settings answer slots = ((answer ≡ fault_number OfShape) × IsOutside settings)
    ⊎ (IsInside settings × ((fault : Fault) × (answer ≡ fault_number fault) × RefusesOpen fault slots))

-- Why nothing was let go: the slot is empty, or what it has isn't what is left of a runtime.
abbrev pub RefusesEndBy : ℕ → Slot → Type 0
RefusesEndBy answer slot = (fault : Fault) × (answer ≡ fault_number fault) × RefusesEnd fault slot.held.part.value

-- A close was made, and its answer is told.
pub record TellsClose (answer : ℕ) (old new : PartSlots) : Type 0 where
  pub result : Result (Unit {0}) Fault
  pub does : Closes result old new ⊎ ClosesAgain result old.control new.control ⊎ RefusesClose result old new
  pub answer_is : answer ≡ answer_of result

-- Why a close isn't made: a slot is empty, or is refused, or memory was.
abbrev pub RefusesCloseBy : ℕ → PartSlots → Type 0
RefusesCloseBy answer slots = (fault : Fault) × (answer ≡ fault_number fault) × IsWhyNotClosed fault slots

-- done, or not for want of memory
abbrev pub IsDoneUnlessForMemory : ℕ → Type 0
IsDoneUnlessForMemory answer = (answer ≡ 0) ⊎ (answer ≡ fault_number Memory)

-- 0, or 1 where no further grace period can be numbered, or the number of a fault
abbrev pub answer_of_turn : Result DriverTurn Fault → ℕ
answer_of_turn (Ok Spent) = 1
answer_of_turn (Ok turn) = 0
answer_of_turn (Err fault) = fault_number fault

-- A turn of the driver was made, and told by these words.
pub record TellsTurn (words : DriverWords) (answer : ℕ) (old new : Slot) : Type 0 where
  pub result : Result DriverTurn Fault
  pub does : OnSlot DriverTurnsBy result old new
  pub answer_is : answer ≡ answer_of_turn result
  pub gives : IfOk result (λ turn. AreTurnWords turn words)
