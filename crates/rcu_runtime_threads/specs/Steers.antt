-- What an order of a steering does to control.
use Rattle.std.specs.Prelude.{◌≡◌, ◌≢◌, ℕ, zero, suc, Bool, true, false, [], Ok}
use Rattle.rcu_board.specs.Words.{turns_word}
use Rattle.rcu_part_control.specs.Barriers.{IsOver}
use Rattle.rcu_part_control.specs.Parts.{control_board, control_view}
use Rattle.rcu_board.specs.Frames.{StepsWithin}
use Rattle.rcu_part_control.specs.declared.barrier.Barrier.{Barrier}
use Rattle.rcu_part_control.specs.declared.control.Control.{Control}
use Rattle.rcu_jobs.specs.declared.Counts.{Counts}
use Rattle.rcu_parts.specs.OneOpen.{Parts}
use Rattle.rcu_runtime.specs.Calls.{AsksOnce, OnControl, Opens, Polls, ShutsAll, Switches}
use Rattle.rcu_runtime.specs.Waits.{DrainsBy}
use Rattle.rcu_runtime_threads.specs.declared.fault.WorkersFault.{WorkersFault}
use Rattle.rcu_runtime_threads.specs.declared.fault.WorkersFault.TheVariants.{NotDrained}
use Rattle.rcu_runtime_threads.specs.declared.run.Ending.{Ending}
use Rattle.rcu_runtime_threads.specs.declared.run.Ending.TheVariants.{AfterBarrier, AtOnce, Drained}
use Rattle.rcu_runtime_threads.specs.declared.steering.Order.{Order}
use Rattle.rcu_runtime_threads.specs.declared.steering.Order.TheVariants as order
use Rattle.rcu_runtime_threads.specs.declared.steering.Reply.{Reply}
use Rattle.rcu_runtime_threads.specs.declared.steering.Reply.TheVariants as reply

-- Each order is that call of control, and its reply is what the call answered.
abbrev pub Steers : Order → Reply → Control → Control → Type 0
Steers (order.Offload p) (reply.Switched result) c d = Switches p 1 result c d
Steers (order.Deoffload p) (reply.Switched result) c d = Switches p 0 result c d
Steers order.OpenBarrier (reply.Opened barrier) c d = Opens [] (Ok barrier) c d
Steers (order.PollBarrier barrier) (reply.Polled passed) c d = Polls barrier.counts passed c d
Steers (order.PollBarrier barrier) reply.OtherBarrier c d = (barrier.counts.n ≢ (control_board c).processors) × (d ≡ c)
Steers order.Shut (reply.Shut counts) c d = ShutsAll counts c d
Steers order.Pause reply.Paused c d = d ≡ c
Steers order.Done reply.Ended c d = d ≡ c
Steers _ _ c d = ⊥

-- ---- the orders of a steering

-- One order more, which may be given.
pub record SteersOnce (SteersBefore : Control → Type 0) (may : Order → Type 0) (d : Control) : Type 0 where
  pub before : Control
  pub order : Order
  pub reply : Reply
  pub earlier : SteersBefore before
  pub allowed : may order
  pub steers : Steers order reply before d

-- So many orders were made, one after another, each of which may be given.
abbrev pub AreSteered : (Order → Type 0) → ℕ → Control → Control → Type 0
AreSteered may zero c d = d ≡ c
AreSteered may (suc n) c d = SteersOnce (AreSteered may n c) may d

-- Control made orders that may be given, and nothing else.
abbrev pub IsSteered : (Order → Type 0) → Control → Control → Type 0
IsSteered may c d = (n : ℕ) × AreSteered may n c d

-- ---- what control does at the end of a run

-- A barrier was opened, and has passed, for which control read turn words and made no other step.
pub record Passes (c d : Control) : Type 0 where
  pub barrier : Barrier
  pub between : Control
  pub opens : Opens [] (Ok barrier) c between
  pub over : IsOver barrier.counts (control_view d)
  pub only : StepsWithin turns_word barrier.counts.n (control_view between) (control_view d)

-- Every processor was shut, and after that a barrier was opened, and has passed.
pub record ShutsAndPasses (c d : Control) : Type 0 where
  pub counts : Counts
  pub between : Control
  pub shuts : ShutsAll counts c between
  pub passes : Passes between d

-- what an ending asks of control, before the threads end
abbrev pub EndsBy : Ending → Control → Control → Type 0
EndsBy AtOnce c d = d ≡ c
EndsBy AfterBarrier c d = Passes c d
EndsBy Drained c d = ShutsAndPasses c d

-- While all parts ran control made orders that may be given, and then did what the ending asks for.
pub record IsOverseen (may : Order → Type 0) (ending : Ending) (c d : Control) : Type 0 where
  pub between : Control
  pub steered : IsSteered may c between
  pub ends : EndsBy ending between d

-- It did so where all parts had a thread, and else nothing.
abbrev pub Oversees : (Order → Type 0) → Ending → (has_begun : Bool) → Control → Control → Type 0
Oversees may ending true c d = IsOverseen may ending c d
Oversees may ending false c d = d ≡ c

module _ {J R : Type 0} where
  -- Once all threads have ended, a look at the whole runtime whether that is so which the ending asks for.
  abbrev pub LooksBy : Ending → Parts J R → Parts J R → Type 0
  LooksBy AtOnce old new = new ≡ old
  LooksBy AfterBarrier old new = OnControl AsksOnce old new
  LooksBy Drained old new = (drained : Bool) × DrainsBy 0 0 drained old new

  -- it did so where all parts had a thread, and else nothing
  abbrev pub LooksIf : (has_begun : Bool) → Ending → Parts J R → Parts J R → Type 0
  LooksIf true ending old new = LooksBy ending old new
  LooksIf false ending old new = new ≡ old

  -- What a run does by control: orders that may be given, what the ending asks for, and a look whether that is so; nothing else.
  pub record RunsControl (may : Order → Type 0) (ending : Ending) (old new : Parts J R) : Type 0 where
    pub ran : Parts J R
    pub oversees : IsOverseen may ending old.control ran.control
    pub looks : LooksBy ending ran new

  -- what a run does by control where it wasn't made as it was asked for: nothing where some part had no thread
  abbrev pub StopsControl : (Order → Type 0) → Ending → WorkersFault → Parts J R → Parts J R → Type 0
  StopsControl may ending NotDrained old new = RunsControl may ending old new
  StopsControl may ending fault old new = new.control ≡ old.control
