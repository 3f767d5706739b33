-- What a call makes of a world, and what stays
use Rattle.std.specs.Prelude.{◌≡◌, ℕ, List, Result, IfOk, IsOk, OnOk, OnErr}
use Rattle.rcu_world_law.specs.States.{State}
use Rattle.rcu_world_law.specs.Events.{CoreEvent}
use Rattle.rcu_world.specs.declared.cores.Core.{Core}
use Rattle.rcu_world.specs.declared.events.Answer.{Answer}
use Rattle.rcu_world.specs.declared.events.Event.{Event}
use Rattle.rcu_world.specs.Events.{Answers}
use Rattle.rcu_world.specs.GroupTurns.{Made}
use Rattle.rcu_world.specs.Turns.{Leads, KeepsRest, upto}
use Rattle.rcu_world.specs.Views.{state, AllGiven, SameState, SameShape, AsManyProcessors}
use Rattle.rcu_world.specs.Worlds.{IsWorld}

-- An event's answer, and what it makes of the state; what the law doesn't see stays so.
pub record Applies {J R : Type 0} (key_of : J → ℕ) (gives : ℕ → R → Type 0) (old : Core J R) (e : Event J) (answer : Answer J) (new : Core J R) : Type 0 where
  pub step : Answers key_of (state key_of old) e answer (state key_of new)
  pub given : AllGiven gives old → AllGiven gives new

-- All that always holds of a world holds after a call, and the world has its shape and as many processors as before.
pub record KeepsWorld {J R : Type 0} (key_of : J → ℕ) (gives : ℕ → R → Type 0) (old new : Core J R) : Type 0 where
  pub kept : IsWorld key_of gives new
  pub shape : SameShape key_of old new
  pub len : AsManyProcessors key_of old new

-- The same, and a world at rest stays at rest.
pub record StaysWorld {J R : Type 0} (key_of : J → ℕ) (gives : ℕ → R → Type 0) (old new : Core J R) : Type 0 where
  pub kept : IsWorld key_of gives new
  pub shape : SameShape key_of old new
  pub len : AsManyProcessors key_of old new
  pub rest : KeepsRest key_of old new

-- A call that makes these events, which the state before it names, and stays a world
pub record LeadsWorld {J R : Type 0} (key_of : J → ℕ) (gives : ℕ → R → Type 0) (old : Core J R) (events : State → List CoreEvent) (new : Core J R) : Type 0 where
  pub leads : Leads (state key_of old) (events (state key_of old)) (state key_of new)
  pub stays : StaysWorld key_of gives old new

-- A part of a group's turn: events of F, by which it draws and puts so many callbacks, and stays a world
pub record MadeWorld {J R : Type 0} (key_of : J → ℕ) (gives : ℕ → R → Type 0) (F : State → List CoreEvent → Type 0) (old new : Core J R) (took gave : ℕ) : Type 0 where
  pub made : Made F (state key_of old) (state key_of new) took gave
  pub stays : StaysWorld key_of gives old new

module _ {J R : Type 0} (key_of : J → ℕ) (gives : ℕ → R → Type 0) where
  -- A call that makes the events of some choice, such as which growths found room, and stays a world
  pub record LeadsForSome {A : Type 0} (old : Core J R) (events : A → State → List CoreEvent) (new : Core J R) : Type 0 where
    pub choice : A
    pub leads : Leads (state key_of old) (events choice (state key_of old)) (state key_of new)
    pub stays : StaysWorld key_of gives old new

  -- A call that makes the events of its answer, or changes nothing where it fails, and stays a world
  pub record LeadsOrNone {A E : Type 0} (old : Core J R) (events : A → State → List CoreEvent) (result : Result A E) (new : Core J R) : Type 0 where
    pub leads : IfOk result (λ answer. Leads (state key_of old) (events answer (state key_of old)) (state key_of new))
    pub same : OnErr result (SameState key_of old new)
    pub stays : StaysWorld key_of gives old new

  -- A call that makes these events, or where it fails those of `each` for the first n processors alone, and stays a world
  pub record LeadsUpto {A E : Type 0} (old : Core J R) (events : State → List CoreEvent) (each : ℕ → State → List CoreEvent) (result : Result A E) (new : Core J R) : Type 0 where
    pub leads : OnOk result (Leads (state key_of old) (events (state key_of old)) (state key_of new))
    pub before : OnErr result ((n : ℕ) × Leads (state key_of old) (upto each n (state key_of old)) (state key_of new))
    pub stays : StaysWorld key_of gives old new

  -- A turn, which never fails: what it makes of the state, by its answer; and it stays a world.
  pub record TurnsWorld {A E : Type 0} (old : Core J R) (turn : A → State → State → Type 0) (result : Result A E) (new : Core J R) : Type 0 where
    pub ok : IsOk result
    pub made : IfOk result (λ answer. turn answer (state key_of old) (state key_of new))
    pub stays : StaysWorld key_of gives old new
