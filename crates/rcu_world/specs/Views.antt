-- the state of the code, as the law sees it
use Rattle.std.specs.Prelude.{◌≡◌, ℕ, List, length, map}
use Rattle.std.specs.List.{AllByRecursion}
use Rattle.rcu_world_law.specs.States.{Cpu, State}
use Rattle.rcu_world_processor.specs.declared.processor.WorldProcessor.{WorldProcessor}
use Rattle.rcu_world_processor.specs.Views.{seen, AreGiven}
use Rattle.rcu_world.specs.Barrings.{barrier}
use Rattle.rcu_world.specs.declared.cores.Core.{Core}

abbrev pub all_seen : {J R : Type 0} → (J → ℕ) → List (WorldProcessor J R) → List Cpu
all_seen key_of cs = map (seen key_of) cs

abbrev pub state : {J R : Type 0} → (J → ℕ) → Core J R → State
state key_of w = record {
  shape = record { offloadable = w.offloadable.items; stride = w.stride; blimit = w.blimit; qhimark = w.qhimark; limit = w.limit };
  number = w.board.number;
  owing = w.board.owing;
  needed = w.needed;
  cpus = all_seen key_of w.processors.items;
  barriers = map barrier w.barriers.items;
  history = w.history.items;
}

-- of each processor: the receipts are as the relation wants them, and the bypass list is released at the length of the shape
abbrev pub AllGiven : {J R : Type 0} → (ℕ → R → Type 0) → Core J R → Type 0
AllGiven gives w = AllByRecursion (AreGiven gives w.qhimark) w.processors.items

module _ {J R : Type 0} (key_of : J → ℕ) (old new : Core J R) where
  -- nothing changed
  abbrev pub SameState : Type 0
  SameState = state key_of new ≡ state key_of old

  abbrev pub SameShape : Type 0
  SameShape = (state key_of new).shape ≡ (state key_of old).shape

  -- there are as many processors as before
  abbrev pub AsManyProcessors : Type 0
  AsManyProcessors = length (state key_of new).cpus ≡ length (state key_of old).cpus
