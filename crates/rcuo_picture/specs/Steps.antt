-- What a step of a picture shows of its command.
use Rattle.std.specs.Prelude.{◌≡◌, ℕ, List, Option, Some, None, IfSome, codes}
use Rattle.rcu_world_replay.specs.Printed.{IsAnswer}
use Rattle.rcu_world_law.specs.States.{State}
use Rattle.rcuo_picture.specs.Keys.{key_in}
use Rattle.rcuo_picture.specs.declared.runs.KeyJob.{KeyJob}
use Rattle.rcuo_script.specs.Lines.{line_text}
use Rattle.rcuo_script.specs.declared.lines.Line.{Line}
use Rattle.rcu_setup.specs.declared.line.Command.{Command}

-- The answer of a command, with a job of this key if it is a call; `opened` and `still` are the barrier that is open before and
-- after.
pub record HasAnswer (key : ℕ) (old : State) (opened : Option ℕ) (command : Command) (found : Option Line) (new : State)
    (still : Option ℕ) : Type 0 where
  pub line : Line
  pub job : Option KeyJob
  pub is : found ≡ Some line
  pub keyed : IfSome job (λ j. j.key ≡ key)
  pub answers : IsAnswer key_in old opened command job line new still

-- the text of an answer, or of the command that has none
abbrev pub step_text : Option Line → List ℕ
step_text (Some line) = line_text line
step_text None = codes "show"
