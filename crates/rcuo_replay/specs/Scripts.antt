-- What a whole run of a script prints: docs/specification/program.md, "replay"
use Rattle.std.specs.Prelude.{ℕ, ◌≡◌, List, ◌++◌, true}
use Rattle.rcu_jobs.specs.declared.answers.Closed.{Closed}
use Rattle.rcu_parts.specs.AtClose.{ClosesWith}
use Rattle.rcu_parts.specs.OneOpen.{Parts}
use Rattle.rcu_numbers.specs.Shapes.{IsShapeOf}
use Rattle.rcu_numbers.specs.declared.parts_shape.PartsShape.{PartsShape}
use Rattle.rcu_parts.specs.Openings.{IsOpened}
use Rattle.rcuo_replay.specs.Printed.{Prints}
use Rattle.rcuo_replay.specs.ScriptParts.{AllComeBack, AreAllHere, ScriptParts}
use Rattle.rcuo_script.specs.Lines.{whole_totals}
use Rattle.rcuo_script.specs.Scripts.{PrintsScript}
use Rattle.rcu_setup.specs.declared.setup.Setup.{Setup}

-- A whole run of a setup's script, each call with the next of these jobs, prints this text: parts are opened, with each processor
-- here, and each command prints what it answers. Then each processor that is away comes back, the parts are closed, and the totals
-- of what was closed are printed, with the reports.
pub record Replays {J : Type 0} (key_of : J → ℕ) (gives : ℕ → ℕ → Type 0) (setup : Setup) (jobs : List J) (text : List ℕ) : Type 0 where
  pub start : Parts J ℕ
  pub shape : PartsShape
  pub of_setup : IsShapeOf setup.shape shape
  pub opened : IsOpened shape start
  pub first : ScriptParts J ℕ
  pub here : AreAllHere start first
  pub lines : List ℕ
  pub end : ScriptParts J ℕ
  pub prints : PrintsScript (Prints key_of) first end setup.script.items jobs lines
  pub last : Parts J ℕ
  pub back : AllComeBack end last
  pub closed : Closed J ℕ
  pub closes : ClosesWith key_of gives last closed
  pub whole : text ≡ lines ++ whole_totals true closed
