-- What a command prints: docs/specification/program.md, "replay"
use Rattle.std.specs.Prelude.{ℕ, ◌≡◌, List, ◌++◌, length, Option, None, Some, codes, false}
use Rattle.rcu_world_law.specs.States.{State}
use Rattle.rcu_setup.specs.declared.line.Command.{Command}
use Rattle.rcu_setup.specs.declared.line.Command.TheVariants as command
use Rattle.rcu_world.specs.GroupTurns.{Where}
use Rattle.rcuo_script.specs.declared.lines.Verb.TheVariants as verb
use Rattle.rcuo_script.specs.declared.lines.Line.{Line}
use Rattle.rcuo_script.specs.Calls.{is_barrier, is_show}
use Rattle.rcuo_script.specs.Lines.{line_text}
use Rattle.rcu_world_replay.specs.Outcomes.{IsBarrier, IsCall, IsDriver, IsGroup, IsHand, IsLeave, IsPoll, IsQuiet, IsReturn, IsShut, IsSwitch, IsTick, shown}

module _ {J : Type 0} (key_of : J → ℕ) where
  -- the line that answers a command, which has a job where it is a call; `opened` and `still` are the barrier that is open before and after
  abbrev pub IsAnswer : State → Option ℕ → Command → Option J → Line → State → Option ℕ → Type 0
  IsAnswer old opened (command.Call cpu moment name hop) (Some job) l new still = IsCall old verb.Call cpu moment (key_of job) l new
  IsAnswer old opened (command.Call cpu moment name hop) None l new still = ⊥
  IsAnswer old opened (command.Lazy cpu moment name hop) (Some job) l new still = IsCall old verb.Lazy cpu moment (key_of job) l new
  IsAnswer old opened (command.Lazy cpu moment name hop) None l new still = ⊥
  IsAnswer old opened (command.Quiet cpu) job l new still = IsQuiet old cpu l new
  IsAnswer old opened (command.Tick cpu moment) job l new still = IsTick old cpu moment l new
  IsAnswer old opened command.Driver job l new still = IsDriver old l new
  IsAnswer old opened (command.Group group) job l new still = IsGroup old group l new
  IsAnswer old opened (command.Hand cpu) job l new still = IsHand old cpu l new
  IsAnswer old opened (command.Offload cpu) job l new still = IsSwitch old verb.Offload cpu l new
  IsAnswer old opened (command.Deoffload cpu) job l new still = IsSwitch old verb.Deoffload cpu l new
  IsAnswer old opened (command.Leave cpu) job l new still = IsLeave old cpu l new
  IsAnswer old opened (command.Return cpu) job l new still = IsReturn old cpu l new
  IsAnswer old opened command.Barrier job l new still = IsBarrier old l new still
  IsAnswer old opened command.Poll job l new still = IsPoll old opened l new still
  IsAnswer old opened command.Shut job l new still = IsShut old l new
  IsAnswer old opened command.Show job l new still = ⊥

  -- What a command prints: `show` the lines of all lists, any other the line of its answer. Only `barrier` and `poll` change which barrier is open.
  abbrev pub PrintsLists : State → Option ℕ → List ℕ → State → Option ℕ → Type 0
  PrintsLists old opened text new still = (text ≡ shown (length old.cpus) old) × (new ≡ old) × (still ≡ opened)

  abbrev pub PrintsLine : State → Option ℕ → Command → Option J → List ℕ → State → Option ℕ → Type 0
  PrintsLine old opened c job text new still = (l : Line) × IsAnswer old opened c job l new still × (is_barrier c ≡ false → still ≡ opened) × (text ≡ line_text l ++ codes "\n")

  abbrev pub Prints : State → Option ℕ → Command → Option J → List ℕ → State → Option ℕ → Type 0
  Prints old opened c job text new still = Where (is_show c) (PrintsLists old opened text new still) (PrintsLine old opened c job text new still)
