-- What is left of a runtime that was closed: docs/embedding.md, "In one thread".
use Rattle.std.specs.Prelude.{◌≡◌, ℕ, ◌+◌, true, false, length, sum_by, All}
use Rattle.rcu_jobs.specs.Records.{Given}
use Rattle.rcu_jobs.specs.declared.answers.Closed.{Closed}
use Rattle.rcu_parts.specs.AtClose.{AnswersAll, ClosesWith}
use Rattle.rcu_parts.specs.OneOpen.{Parts}
use Rattle.rcu_runtime.specs.Runtimes.{Continues, accepted_in}
use Rattle.rcu_runtime.specs.Waits.{DrainsBy}
use Rattle.rcu_runtime.specs.declared.any_fault.AnyFault.{AnyFault}
use Rattle.rcu_runtime.specs.declared.any_fault.AnyFault.TheVariants.{Memory, NotDrained}

module _ {J R : Type 0} where
  -- Why a runtime was not drained and closed: not all had run after so many turns, or it was drained, and memory was refused.
  abbrev pub IsOfDrain : (moment turns : ℕ) → Parts J R → AnyFault → Type 0
  IsOfDrain moment turns parts NotDrained = (ended : Parts J R) × DrainsBy moment turns false parts ended
  IsOfDrain moment turns parts (Memory refused) = (ended : Parts J R) × DrainsBy moment turns true parts ended
  IsOfDrain moment turns parts fault = ⊥

  -- how many callbacks ran
  abbrev pub ran_in : Closed J R → ℕ
  ran_in closed = sum_by (λ records. length records.items) closed.ran.items

  -- how many jobs are handed back
  abbrev pub back_in : Closed J R → ℕ
  back_in closed = sum_by (λ jobs. length jobs.items) closed.back.items

  -- as many ran or are handed back as were accepted
  abbrev pub LosesNone : Parts J R → Closed J R → Type 0
  LosesNone parts closed = ran_in closed + back_in closed ≡ accepted_in parts

  -- What `close` promises of a runtime: the answer is what it promises of its parts, with the records of all that ran.
  pub record ClosesWhole (key_of : J → ℕ) (gives : ℕ → R → Type 0) (parts : Parts J R) (closed : Closed J R) : Type 0 where
    pub closes : ClosesWith key_of gives parts closed
    pub all : AnswersAll parts closed closes

  -- What was closed is the same runtime, drained, and the answer is what `close` promises of it.
  pub record ClosesLater (key_of : J → ℕ) (gives : ℕ → R → Type 0) (moment turns : ℕ) (parts : Parts J R) (closed : Closed J R) : Type 0 where
    pub ended : Parts J R
    pub continues : Continues parts ended
    pub drains : DrainsBy moment turns true parts ended
    pub closes : ClosesWhole key_of gives ended closed

  -- each receipt is given for the key of its record
  abbrev pub HaveReceipts : (ℕ → R → Type 0) → Closed J R → Type 0
  HaveReceipts gives closed = All (λ records. Given gives records.items) closed.ran.items
