-- What a command prints: docs/specification/program.md, "replay"
use Rattle.std.specs.Prelude.{ℕ, ◌≡◌, List, ◌++◌, length, true, false, Option, None, Some, codes}
use Rattle.rcu_part_control.specs.Parts.{control_view, driver_board, driver_view}
use Rattle.rcu_part_control.specs.declared.barrier.Barrier.{Barrier}
use Rattle.rcuo_script.specs.Calls.{is_barrier, is_show}
use Rattle.rcuo_script.specs.Lines.{line_text}
use Rattle.rcuo_script.specs.declared.lines.Line.{Line}
use Rattle.rcuo_script.specs.declared.lines.Verb.{Verb}
use Rattle.rcuo_script.specs.declared.lines.Verb.TheVariants as verb
use Rattle.rcu_setup.specs.declared.line.Command.{Command}
use Rattle.rcu_setup.specs.declared.line.Command.TheVariants as command
use Rattle.rcuo_replay.specs.Outcomes.{IsBarrier, IsCall, IsDriver, IsGroup, IsHand, IsLeave, IsOfBoard, IsPoll, IsQuiet, IsReturn, IsShut, IsSwitch, IsTick, ShowsFrom}
use Rattle.rcuo_replay.specs.ScriptParts.{ScriptParts, script_board}

-- A barrier that is open is one of these parts' board.
abbrev pub IsOfParts : {J R : Type 0} → ScriptParts J R → Option Barrier → Type 0
IsOfParts parts opened = IsOfBoard (script_board parts) opened

-- ---- which parts change

module _ {J R : Type 0} where
  abbrev pub OnlyProcessors : ScriptParts J R → ScriptParts J R → Type 0
  OnlyProcessors old new = new ≡ record old { processors = new.processors }

  abbrev pub OnlyGroups : ScriptParts J R → ScriptParts J R → Type 0
  OnlyGroups old new = new ≡ record old { groups = new.groups }

  abbrev pub OnlyHands : ScriptParts J R → ScriptParts J R → Type 0
  OnlyHands old new = new ≡ record old { hands = new.hands }

  abbrev pub OnlyDriver : ScriptParts J R → ScriptParts J R → Type 0
  OnlyDriver old new = new ≡ record old { driver = new.driver }

  abbrev pub OnlyControl : ScriptParts J R → ScriptParts J R → Type 0
  OnlyControl old new = new ≡ record old { control = new.control }

module _ {J R : Type 0} (key_of : J → ℕ) where
  abbrev pub IsCallAnswer : Verb → ℕ → ℕ → Option J → Line → ScriptParts J R → ScriptParts J R → Type 0
  IsCallAnswer v cpu moment None l old new = ⊥
  IsCallAnswer v cpu moment (Some job) l old new = IsCall key_of v cpu moment job l old.processors.items new.processors.items × OnlyProcessors old new

  -- The line that answers a command other than `show`, which has a job where it is a call: each is one call of one part, and
  -- no other part changes. `opened` and `still` are the barrier that is open before and after.
  abbrev pub IsAnswer : ScriptParts J R → Option Barrier → Command → Option J → Line → ScriptParts J R → Option Barrier → Type 0
  IsAnswer old opened (command.Call cpu moment name hop) job l new still = IsCallAnswer verb.Call cpu moment job l old new
  IsAnswer old opened (command.Lazy cpu moment name hop) job l new still = IsCallAnswer verb.Lazy cpu moment job l old new
  IsAnswer old opened (command.Quiet cpu) job l new still = IsQuiet cpu l old.processors.items new.processors.items × OnlyProcessors old new
  IsAnswer old opened (command.Tick cpu moment) job l new still = IsTick cpu moment l old.processors.items new.processors.items × OnlyProcessors old new
  IsAnswer old opened command.Driver job l new still = IsDriver (driver_board old.driver).processors l (driver_view old.driver) (driver_view new.driver) × OnlyDriver old new
  IsAnswer old opened (command.Group group) job l new still = IsGroup group l old.groups.items new.groups.items × OnlyGroups old new
  IsAnswer old opened (command.Hand cpu) job l new still = IsHand (length old.processors.items) cpu l old.hands.items new.hands.items × OnlyHands old new
  IsAnswer old opened (command.Offload cpu) job l new still = IsSwitch (script_board old) verb.Offload cpu l (control_view old.control) (control_view new.control) × OnlyControl old new
  IsAnswer old opened (command.Deoffload cpu) job l new still = IsSwitch (script_board old) verb.Deoffload cpu l (control_view old.control) (control_view new.control) × OnlyControl old new
  IsAnswer old opened (command.Leave cpu) job l new still = IsLeave cpu l old.processors.items new.processors.items × OnlyProcessors old new
  IsAnswer old opened (command.Return cpu) job l new still = IsReturn cpu l old.processors.items new.processors.items × OnlyProcessors old new
  IsAnswer old opened command.Barrier job l new still = IsBarrier (script_board old).processors l (control_view old.control) (control_view new.control) still × OnlyControl old new
  IsAnswer old opened command.Poll job l new still = IsPoll opened l (control_view old.control) (control_view new.control) still × OnlyControl old new
  IsAnswer old opened command.Shut job l new still = IsShut (script_board old).processors l (control_view old.control) (control_view new.control) × OnlyControl old new
  IsAnswer old opened command.Show job l new still = ⊥

  -- What a command prints: `show` the lines of all lists, any other the line of its answer. Only `barrier` and `poll` change
  -- which barrier is open.
  abbrev pub PrintsLists : ScriptParts J R → Option Barrier → List ℕ → ScriptParts J R → Option Barrier → Type 0
  PrintsLists old opened text new still = ShowsFrom 0 old.processors.items old.groups.items text × (new ≡ old) × (still ≡ opened)

  abbrev pub PrintsLine : ScriptParts J R → Option Barrier → Command → Option J → List ℕ → ScriptParts J R → Option Barrier → Type 0
  PrintsLine old opened c job text new still = (l : Line) × IsAnswer old opened c job l new still × (is_barrier c ≡ false → still ≡ opened) × (text ≡ line_text l ++ codes "\n")

  pub record Prints (old : ScriptParts J R) (opened : Option Barrier) (c : Command) (job : Option J) (text : List ℕ) (new : ScriptParts J R) (still : Option Barrier) : Type 0 where
    pub lists : is_show c ≡ true → PrintsLists old opened text new still
    pub line : is_show c ≡ false → PrintsLine old opened c job text new still
