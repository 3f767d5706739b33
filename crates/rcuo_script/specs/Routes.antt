-- The routes of a version, and what a call line makes of them: docs/specification/program.md, "Route table".
use Rattle.std.specs.Prelude.{ℕ, zero, suc, ◌+◌, List, [], ◌∷◌, ◌++◌, length, sum_by, fold, filter_map, map, codes, String}
use Rattle.std.specs.Fmt.{decimal}
use Rattle.std.specs.Str.{bytes_eq}
use Rattle.std.specs.declared.alloc.Global.{Global}
use Rattle.indexmap.specs.IndexMap.{IndexMap, insert_entry}
use Rattle.rcu_setup.specs.Arrays.{route_view}
use Rattle.rcu_setup.specs.Words.{Route}
use Rattle.rcu_setup.specs.declared.line.Command.{Command}
use Rattle.rcuo_script.specs.Calls.{route_in}

-- the routes of a map, in its order, each name by its bytes
abbrev pub routes_in : {S : Type 0} → IndexMap (String Global) ℕ S → List Route
routes_in version = map route_view version.entries

-- with one route set: a name that is there keeps its place and takes the hop, and a new one goes last
abbrev pub with_route : List Route → Route → List Route
with_route routes r = insert_entry bytes_eq routes r.0 r.1

-- with more routes set, one after another
abbrev pub with_routes : List Route → List Route → List Route
with_routes = fold with_route

-- ---- the route that each call sets

-- in `replay`: that of each call line of the script, in order
abbrev pub routes_of_calls : List Command → List Route
routes_of_calls = filter_map route_in

-- in `threads`, of the first n processors in a round: route cP, for processor P, to the round's number
abbrev pub routes_of_round : ℕ → ℕ → List Route
routes_of_round round zero = []
routes_of_round round (suc p) = routes_of_round round p ++ (codes "c" ++ decimal p, round) ∷ []

-- of n processors in so many rounds from 0
abbrev pub routes_of_rounds : ℕ → ℕ → List Route
routes_of_rounds n zero = []
routes_of_rounds n (suc round) = routes_of_rounds n round ++ routes_of_round round n

-- ---- what versions count: "each route of each version counts as 128 bytes and those of its name"

abbrev pub bytes_of : List Route → ℕ
bytes_of = sum_by (λ r. 128 + length r.0)

-- all versions of a run, of which each call makes one more
abbrev pub bytes_of_run : List Route → List Route → ℕ
bytes_of_run version [] = bytes_of version
bytes_of_run version (call ∷ calls) = bytes_of version + bytes_of_run (with_route version call) calls
