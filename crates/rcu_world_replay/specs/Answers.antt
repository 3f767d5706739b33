-- What the call of a command answers, and what it leaves of the core
use Rattle.std.specs.Prelude.{ℕ, Result, IfOk}
use Rattle.rcu_world_law.specs.States.{State}
use Rattle.rcuo_script.specs.declared.lines.Line.{Line}
use Rattle.rcu_world.specs.Stays.{StaysWorld}
use Rattle.rcu_world.specs.Views.{state}
use Rattle.rcu_world.specs.declared.cores.Core.{Core}

-- The line says so of the state before and after, and the core stays a world.
pub record TellsAs {J R : Type 0} (key_of : J → ℕ) (gives : ℕ → R → Type 0) (Says : State → Line → State → Type 0) (answer : Line) (old new : Core J R) : Type 0 where
  pub line : Says (state key_of old) answer (state key_of new)
  pub stays : StaysWorld key_of gives old new

-- The same of a call that may fail: the core stays a world, with a line or without.
pub record AnswersAs {J R E : Type 0} (key_of : J → ℕ) (gives : ℕ → R → Type 0) (Says : State → Line → State → Type 0) (result : Result Line E) (old new : Core J R) : Type 0 where
  pub line : IfOk result (λ line. Says (state key_of old) line (state key_of new))
  pub stays : StaysWorld key_of gives old new
