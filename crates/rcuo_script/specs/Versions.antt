-- The versions that calls retire: docs/specification/program.md, "Route table".
use Rattle.std.specs.Prelude.{◌≡◌, ℕ, ◌+◌, ◌*◌, ◌^◌, ◌≤◌, List, [], ◌∷◌, length, map, Vec}
use Rattle.std.specs.declared.alloc.Global.{Global}
use Rattle.rcu_setup.specs.Words.{Route}
use Rattle.rcuo_script.specs.Routes.{bytes_of, bytes_of_run, routes_in, with_route, with_routes}
use Rattle.rcuo_script.specs.declared.versions.table.Retired.{Retired}
use Rattle.rcuo_script.specs.declared.versions.retired.Retiring.{Retiring}
use Rattle.rcuo_script.specs.declared.versions.table.TheConstants.{KEY_STEP}

-- the key of version v with these routes
abbrev pub key_of : ℕ → List Route → ℕ
key_of v routes = v * KEY_STEP + length routes

-- The keys and routes of the versions that calls retire, of which the first has number v: each call retires the version
-- before it, and sets its route in the next.
abbrev pub retired_from : ℕ → List Route → List Route → List (ℕ × List Route)
retired_from v routes [] = []
retired_from v routes (call ∷ calls) = (key_of v routes, routes) ∷ retired_from (v + 1) (with_route routes call) calls

abbrev pub shown : Retired → ℕ × List Route
shown version = (version.key, routes_in version.table)

-- The versions that calls retire, where version 0 has the routes of a setup: version v has those with the routes of the
-- first v calls set in order.
abbrev pub AreVersions : List Route → List Route → Vec Retired Global → Type 0
AreVersions setup calls versions = map shown versions.items ≡ retired_from 0 (with_routes [] setup) calls

-- "All versions of a run take at most 1 GiB."
abbrev pub most_bytes : ℕ
most_bytes = 2 ^ 30

-- Those of a setup's routes and these calls take no more.
abbrev pub AreWithinBudget : List Route → List Route → Type 0
AreWithinBudget setup calls = bytes_of_run (with_routes [] setup) calls ≤ most_bytes

-- what was made of version 0 by these calls
pub record HasRetired (first calls : List Route) (it : Retiring) : Type 0 where
  pub current : routes_in it.current ≡ with_routes first calls
  pub versions : map shown it.retired.items ≡ retired_from 0 first calls
  pub bytes : it.bytes ≡ bytes_of (with_routes first calls)
  pub budget : it.left + bytes_of_run first calls ≡ most_bytes
