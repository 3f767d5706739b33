-- What `rcuo threads` prints: docs/specification/program.md, "threads"
use Rattle.std.specs.Prelude.{◌≡◌, ℕ, List, Result, false}
use Rattle.std.proofs.Common.{◌⊎◌}
use Rattle.rcu_jobs.specs.declared.answers.Closed.{Closed}
use Rattle.rcu_jobs.specs.declared.answers.Refused.{Refused}
use Rattle.rcu_jobs.specs.declared.answers.Ticket.{Ticket}
use Rattle.rcu_parts.specs.Drained.{HasNoneBack}
use Rattle.rcu_parts.specs.OneOpen.{Parts}
use Rattle.rcu_numbers.specs.Shapes.{IsShapeOf}
use Rattle.rcu_numbers.specs.declared.parts_shape.PartsShape.{PartsShape}
use Rattle.rcu_parts.specs.Openings.{IsOpened}
use Rattle.rcuo_script.specs.Faults.{IsFaultOfOutput}
use Rattle.rcuo_script.specs.Lines.{whole_totals}
use Rattle.rcuo_script.specs.declared.fault.Fault.{Fault}
use Rattle.rcuo_script.specs.declared.fault.Fault.TheVariants.{CannotRun}
use Rattle.rcu_setup.specs.declared.setup.Setup.{Setup}
use Rattle.rcu_part_threads.specs.Dealing.{HaveAllRun}
use Rattle.rcu_threads.specs.Ends.{ClosesSame, keys_ran}

-- A run in threads of jobs like these prints this text: all parts of the setup's shape are opened, the same parts are closed,
-- however far they came, no job is handed back, and of the jobs, which were dealt in rounds, those that were accepted ran; and
-- then the totals of what was closed are printed, without the reports.
pub record RunsInThreads {J : Type 0} (key_of : J → ℕ) (gives : ℕ → ℕ → Type 0) (setup : Setup) (jobs : List J) (text : List ℕ) : Type 0 where
  pub start : Parts J ℕ
  pub shape : PartsShape
  pub of_setup : IsShapeOf setup.shape shape
  pub opened : IsOpened shape start
  pub closed : Closed J ℕ
  pub closes : ClosesSame key_of gives start closed
  pub none_back : HasNoneBack closed
  pub answers : List (List (Result Ticket (Refused J)))
  pub all : HaveAllRun key_of jobs answers (keys_ran closed)
  pub whole : text ≡ whole_totals false closed

-- why there are no totals: want of memory, a failed write, or threads that can't be run
abbrev pub IsFaultOfThreads : Fault → Type 0
IsFaultOfThreads fault = IsFaultOfOutput fault ⊎ (fault ≡ CannotRun)
