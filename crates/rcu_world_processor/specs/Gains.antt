-- What is put behind a list of jobs
use Rattle.std.specs.Prelude.{◌≡◌, ℕ, ◌+◌, ◌≤◌, ◌++◌, List, length, map, vec_len, vec_capacity}
use Rattle.std.specs.Global.{Vec}
use Rattle.rcu_world_law.specs.Calls.{Call}
use Rattle.rcu_world_law.specs.Places.{key_of as key_of_call}

-- The jobs of these callbacks are behind those that were there, in order, in the room that there was.
pub record Gains {J : Type 0} (key_of : J → ℕ) (calls : List Call) (old new : Vec J) : Type 0 where
  pub keys : map key_of new.items ≡ map key_of old.items ++ map key_of_call calls
  pub len : vec_len new ≡ vec_len old + length calls
  pub capacity : vec_capacity old ≤ vec_capacity new
