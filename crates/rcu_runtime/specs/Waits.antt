-- Waiting by turns: how many are made, at which moment, and what control does meanwhile: docs/embedding.md, "In one
-- thread".
use Rattle.std.specs.Prelude.{◌≡◌, ℕ, zero, suc, ◌≤◌, Bool, true, false, Option, Some, None, Result, []}
use Rattle.std.specs.declared.result.Result.TheVariants.{Ok, Err}
use Rattle.rcu_part_control.specs.declared.barrier.Barrier.{Barrier}
use Rattle.rcu_jobs.specs.declared.Counts.{Counts}
use Rattle.rcu_jobs.specs.declared.Passed.{Passed}
use Rattle.rcu_jobs.specs.declared.turns.DriverTurn.{DriverTurn}
use Rattle.rcu_parts.specs.OneOpen.{Parts}
use Rattle.rcu_runtime.specs.Calls.{LeavesAll, OnControl, Opens, Polls, ShutsAll}
use Rattle.rcu_runtime.specs.Runtimes.{Continues, accepted_in}
use Rattle.rcu_runtime.specs.Turns.{TurnsAll}
use Rattle.rcu_runtime.specs.declared.any_fault.AnyFault.{AnyFault}
use Rattle.rcu_runtime.specs.declared.any_fault.AnyFault.TheVariants.{NotPassed}

module _ {J R : Type 0} where
  -- Once more: a poll found that the barrier hasn't passed, and then every part made a turn at this moment.
  pub record WaitsOnce (WaitsBefore : Parts J R → Type 0) (moment : ℕ) (counts : Counts) (new : Parts J R) : Type 0 where
    pub before : Parts J R
    pub polled : Parts J R
    pub answer : DriverTurn
    pub earlier : WaitsBefore before
    pub polls : OnControl (Polls counts None) before polled
    pub turns : TurnsAll moment answer polled new

  -- So many times, one after another, a poll found that a barrier of these counts hasn't passed, and every part made a turn.
  abbrev pub Waits : (moment : ℕ) → Counts → (times : ℕ) → Parts J R → Parts J R → Type 0
  Waits moment counts zero old new = new ≡ old
  Waits moment counts (suc n) old new = WaitsOnce (Waits moment counts n old) moment counts new

  -- It waited as many times as Many says, and then a poll gave this answer; the runtime goes on as the same one, and no callback
  -- more is accepted.
  pub record WaitsFor (moment : ℕ) (counts : Counts) (Many : ℕ → Type 0) (passed : Option Passed) (old new : Parts J R) : Type 0 where
    pub times : ℕ
    pub many : Many times
    pub between : Parts J R
    pub waits : Waits moment counts times old between
    pub polls : OnControl (Polls counts passed) between new
    pub continues : Continues old new
    pub none : accepted_in new ≡ accepted_in old

  -- At most so many turns were made until a barrier passed; or just so many, and it hasn't passed; or nothing was done, since
  -- another runtime opened it.
  abbrev pub TurnsUntilPassed : (moment turns : ℕ) → Counts → Result Passed AnyFault → Parts J R → Parts J R → Type 0
  TurnsUntilPassed moment turns counts (Ok passed) old new = WaitsFor moment counts (λ n. n ≤ turns) (Some passed) old new
  TurnsUntilPassed moment turns counts (Err NotPassed) old new = WaitsFor moment counts (λ n. n ≡ turns) None old new
  TurnsUntilPassed moment turns counts (Err fault) old new = LeavesAll old new

  -- a poll found whether a barrier has passed
  abbrev pub FindsPassed : Counts → Bool → Parts J R → Parts J R → Type 0
  FindsPassed counts true old new = (passed : Passed) × OnControl (Polls counts (Some passed)) old new
  FindsPassed counts false old new = OnControl (Polls counts None) old new

  -- At most so many turns were made until a barrier passed; or just so many, and it hasn't passed.
  abbrev pub TurnsUntil : (moment turns : ℕ) → Counts → Bool → Parts J R → Parts J R → Type 0
  TurnsUntil moment turns counts true old new = (passed : Passed) × WaitsFor moment counts (λ n. n ≤ turns) (Some passed) old new
  TurnsUntil moment turns counts false old new = WaitsFor moment counts (λ n. n ≡ turns) None old new

  -- Every processor was shut, and then a barrier was opened with no tickets.
  pub record ShutsAndOpens (barrier : Barrier) (old new : Parts J R) : Type 0 where
    pub finals : Counts
    pub shut : Parts J R
    pub shuts : OnControl (ShutsAll finals) old shut
    pub opens : OnControl (Opens [] (Ok barrier)) shut new
    pub continues : Continues old new
    pub none : accepted_in new ≡ accepted_in old

  -- Acceptance was ended, a barrier was opened for all that was accepted, and turns were made at this moment, at most so many,
  -- until it passed, which says whether all has run. The runtime goes on as the same one, and no callback more is accepted.
  pub record DrainsBy (moment turns : ℕ) (drained : Bool) (old new : Parts J R) : Type 0 where
    pub barrier : Barrier
    pub opened : Parts J R
    pub begins : ShutsAndOpens barrier old opened
    pub waits : TurnsUntil moment turns barrier.counts drained opened new
    pub continues : Continues old new
    pub none : accepted_in new ≡ accepted_in old
