-- What always holds of a world
use Rattle.std.specs.Prelude.{ℕ, ◌≤◌, length}
use Rattle.rcu_numbers.specs.declared.shape.TheConstants.{MOST_CALLBACKS, MOST_PROCESSORS}
use Rattle.rcu_numbers.specs.declared.Shape.{Shape}
use Rattle.rcu_world_law.specs.States.{State, Shape as Plan}
use Rattle.rcu_world_law.specs.Invariant.{IsCore}
use Rattle.rcu_world_law.specs.Law.{HasNoBack}
use Rattle.rcu_world.specs.declared.cores.Core.{Core}
use Rattle.rcu_world.specs.Boards.{bits}
use Rattle.rcu_world.specs.Views.{state, AllGiven}

-- the machine's invariant, the limits of its shape, and that it isn't closed
pub record IsFit (w : State) : Type 0 where
  pub core : IsCore w
  pub stride : 1 ≤ w.shape.stride
  pub blimit : 1 ≤ w.shape.blimit
  pub limit : w.shape.limit ≤ MOST_CALLBACKS
  pub few : length w.cpus ≤ MOST_PROCESSORS
  pub no_back : HasNoBack w.history

pub record IsWorld {J R : Type 0} (key_of : J → ℕ) (gives : ℕ → R → Type 0) (w : Core J R) : Type 0 where
  pub fit : IsFit (state key_of w)
  pub given : AllGiven gives w

-- the shape that the law speaks of
abbrev pub plan : Shape → Plan
plan s = record { offloadable = bits s.processors s.offloadable; stride = s.stride; blimit = s.blimit; qhimark = s.qhimark; limit = s.limit }
