-- What a whole run of a script prints: docs/specification/program.md, "replay"
use Rattle.std.specs.Prelude.{ℕ, ◌≡◌, List, ◌++◌, length, true}
use Rattle.rcu_world_replay.specs.Printed.{Prints}
use Rattle.rcu_jobs.specs.declared.answers.Closed.{Closed}
use Rattle.rcu_world_law.specs.Closing.{closing}
use Rattle.rcu_world_law.specs.States.{State, opening}
use Rattle.rcuo_script.specs.Lines.{whole_totals}
use Rattle.rcuo_script.specs.Scripts.{PrintsScript}
use Rattle.rcu_setup.specs.declared.setup.Setup.{Setup}
use Rattle.rcu_world.specs.Leaving.{AreHandedBack, AreRecorded, AreReported}
use Rattle.rcu_world.specs.Worlds.{plan}

-- A whole run of a setup's script, each call with the next of these jobs, prints this text: each command prints what it answers
-- over the core, from its opening on, the core is closed, and then the totals of what was closed are printed, with the reports.
pub record Replays {J : Type 0} (key_of : J → ℕ) (gives : ℕ → ℕ → Type 0) (setup : Setup) (jobs : List J) (text : List ℕ) : Type 0 where
  pub lines : List ℕ
  pub end : State
  pub prints : PrintsScript (Prints key_of) (opening setup.shape.processors (plan setup.shape)) end setup.script.items jobs lines
  pub closed : Closed J ℕ
  pub ran : AreRecorded gives (length end.cpus) (closing end) closed.ran.items
  pub back : AreHandedBack key_of (length end.cpus) (closing end) closed.back.items
  pub reports : AreReported (length end.cpus) (closing end) closed.reports.items
  pub whole : text ≡ lines ++ whole_totals true closed
