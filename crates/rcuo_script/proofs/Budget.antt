-- What versions count, one route and one call further.
use Rattle.std.proofs.Common.{arith, ◌≡◌, ℕ, ◌+◌, ◌++◌, [], ◌∷◌, Bool, true, false, List, Some, cond, is_some, length, map, if◌then◌else◌, refl, string_bytes, subst, String}
use Rattle.std.proofs.lemmas.List.Sums.{sum_by-cons}
use Rattle.std.specs.Map.{lookup}
use Rattle.std.specs.Str.{bytes_eq}
use Rattle.std.specs.declared.alloc.Global.{Global}
use Rattle.rcu_setup.specs.Arrays.{route_view}
use Rattle.rcu_setup.specs.Words.{Route}
use Rattle.rcuo_script.specs.Routes.{bytes_of, bytes_of_run, with_route, with_routes}

abbrev at_name : List ℕ → String Global → Bool
at_name name key = bytes_eq name (string_bytes key)

abbrev counted : Route → ℕ
counted r = 128 + length r.0

added_in_rest : (name : List ℕ) (hop : ℕ) (e : String Global × ℕ) (es : List (String Global × ℕ)) (b : Bool) →
    bytes_of (with_route (map route_view es) (name, hop)) ≡ bytes_of (map route_view es) + cond (is_some (lookup (at_name name) es)) 0 (128 + length name) →
    bytes_of (if b then (string_bytes e.0, hop) ∷ map route_view es else route_view e ∷ with_route (map route_view es) (name, hop))
    ≡ bytes_of (route_view e ∷ map route_view es) + cond (is_some (cond b (Some e.1) (lookup (at_name name) es))) 0 (128 + length name)
added_in_rest name hop e es true rest = omega (arith, sum_by-cons counted (string_bytes e.0, hop) (map route_view es), sum_by-cons counted (route_view e) (map route_view es))
added_in_rest name hop e es false rest = omega (arith, rest, sum_by-cons counted (route_view e) (with_route (map route_view es) (name, hop)), sum_by-cons counted (route_view e) (map route_view es))

-- a route that is set counts 128 bytes and those of its name, unless the name is there
added_along : (name : List ℕ) (hop : ℕ) (es : List (String Global × ℕ)) →
    bytes_of (with_route (map route_view es) (name, hop)) ≡ bytes_of (map route_view es) + cond (is_some (lookup (at_name name) es)) 0 (128 + length name)
added_along name hop [] = omega (arith, sum_by-cons counted (name, hop) [])
added_along name hop (e ∷ es) = added_in_rest name hop e es (at_name name e.0) (added_along name hop es)

pub adds_none : (name : List ℕ) (hop : ℕ) (es : List (String Global × ℕ)) → is_some (lookup (at_name name) es) ≡ true → bytes_of (with_route (map route_view es) (name, hop)) ≡ bytes_of (map route_view es) + 0
adds_none name hop es there = subst (λ b. bytes_of (with_route (map route_view es) (name, hop)) ≡ bytes_of (map route_view es) + cond b 0 (128 + length name)) there (added_along name hop es)

pub adds_one : (name : List ℕ) (hop : ℕ) (es : List (String Global × ℕ)) → is_some (lookup (at_name name) es) ≡ false → bytes_of (with_route (map route_view es) (name, hop)) ≡ bytes_of (map route_view es) + (128 + length name)
adds_one name hop es new = subst (λ b. bytes_of (with_route (map route_view es) (name, hop)) ≡ bytes_of (map route_view es) + cond b 0 (128 + length name)) new (added_along name hop es)

-- one call more makes one version more
pub run_one_more : (first calls : List Route) (call : Route) → bytes_of_run first (calls ++ call ∷ []) ≡ bytes_of_run first calls + bytes_of (with_routes first (calls ++ call ∷ []))
run_one_more first [] call = refl
run_one_more first (c ∷ calls) call = omega (arith, run_one_more (with_route first c) calls call)
