-- What the turn calls of the tests ask of a core, and how they leave it.
use Rattle.std.specs.Prelude.{ℕ, ◌<◌, List, length}
use Rattle.rcu_world_law.specs.Events.{CoreEvent}
use Rattle.rcu_world_law.specs.States.{State}
use Rattle.rcu_world.specs.Turns.{IsAtRest, Leads}
use Rattle.rcu_world.specs.Views.{state}
use Rattle.rcu_world.specs.Worlds.{IsWorld}
use Rattle.rcu_world.specs.declared.cores.Core.{Core}

-- a core of at least one processor, at rest
pub record IsResting {J R : Type 0} (key_of : J → ℕ) (gives : ℕ → R → Type 0) (c : Core J R) : Type 0 where
  pub world : IsWorld key_of gives c
  pub rest : IsAtRest (state key_of c)
  pub there : 0 < length (state key_of c).cpus

-- A step of a test makes these events, and leaves the core at rest.
pub record RestsAfter {J R : Type 0} (key_of : J → ℕ) (gives : ℕ → R → Type 0) (events : State → List CoreEvent) (old new : Core J R) : Type 0 where
  pub resting : IsResting key_of gives new
  pub leads : Leads (state key_of old) (events (state key_of old)) (state key_of new)
