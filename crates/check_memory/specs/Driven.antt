-- What holds of a runtime between two calls of a scenario.
use Rattle.std.specs.Prelude.{◌≡◌, ℕ}
use Rattle.check_memory.specs.Works.{IsOwnKey, key_of_work}
use Rattle.check_memory.specs.declared.growth.Growth.{Growth}
use Rattle.check_memory.specs.declared.machine.Answer.{Answer}
use Rattle.check_memory.specs.declared.machine.Answer.TheVariants.{Memory}
use Rattle.check_memory.specs.declared.work.Work.{Work}
use Rattle.rcu_parts.specs.OneOpen.{AreOfOneOpen, AreSoundParts, Parts}
use Rattle.rcu_world.specs.Turns.{IsAtRest}
use Rattle.rcu_world.specs.Views.{state}
use Rattle.rcu_world.specs.Worlds.{IsWorld}
use Rattle.rcu_world.specs.declared.worlds.World.{World}

-- The parts are those of one open, and know of their jobs what they should.
pub record AreDriven (parts : Parts Work ℕ) : Type 0 where
  pub one : AreOfOneOpen parts
  pub sound : AreSoundParts key_of_work IsOwnKey parts

-- The world is lawful, and at rest.
pub record IsDrivenWorld (w : World Work ℕ) : Type 0 where
  pub kept : IsWorld key_of_work IsOwnKey w.core
  pub rest : IsAtRest (state key_of_work w.core)

-- Where a call answers want of memory, this is the growth.
abbrev pub NamesGrowth : Growth → Answer → Type 0
NamesGrowth growth (Memory refused) = refused ≡ growth
NamesGrowth growth _ = Unit {0}

-- What a call with one growth leaves and answers.
pub record LeavesDriven (growth : Growth) (answer : Answer) (w : World Work ℕ) : Type 0 where
  pub driven : IsDrivenWorld w
  pub names : NamesGrowth growth answer
