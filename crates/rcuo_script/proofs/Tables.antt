-- What setting a route in a map is to the routes that it has.
use Rattle.std.proofs.Common.{arith, ◌≡◌, ℕ, ◌+◌, ◌<◌, ◌≤◌, cond, count_by, option_to_list, Option, Some, None, is_some, ◌++◌, ◌∙◌, [], ◌∷◌, Bool, true, false, List, ap, sym, refl, map, length, take, get_or, if◌then◌else◌, string_bytes, String}
use Rattle.std.proofs.lemmas.List.Elements.{filter_map-append}
use Rattle.std.specs.List.{cons_option}
use Rattle.std.proofs.lemmas.List.{take_more}
use Rattle.std.proofs.lemmas.List.Sums.{fold-append, sum_by-append}
use Rattle.std.specs.List.{AllZip}
use Rattle.std.specs.Option.{option_len}
use Rattle.std.specs.String.{string_eq}
use Rattle.std.specs.declared.alloc.Global.{Global}
use Rattle.indexmap.specs.IndexMap.{insert_entry}
use Rattle.rcu_setup.specs.Arrays.{route_view}
use Rattle.rcu_setup.specs.Words.{Route}
use Rattle.rcu_setup.specs.declared.line.Command.{Command}
use Rattle.rcuo_script.specs.Calls.{is_call, route_in}
use Rattle.rcuo_script.specs.Routes.{routes_of_calls, with_route, with_routes}

-- a route that is set by its text is set by the text's bytes
set_in_rest : (name : String Global) (hop : ℕ) (e : String Global × ℕ) (es : List (String Global × ℕ)) (b : Bool) →
    map route_view (insert_entry string_eq es name hop) ≡ with_route (map route_view es) (string_bytes name, hop) →
    map route_view (if b then (e.0, hop) ∷ es else e ∷ insert_entry string_eq es name hop)
    ≡ (if b then (string_bytes e.0, hop) ∷ map route_view es else route_view e ∷ with_route (map route_view es) (string_bytes name, hop))
set_in_rest name hop e es true rest = refl
set_in_rest name hop e es false rest = ap (λ routes. route_view e ∷ routes) rest

pub set_by_bytes : (name : String Global) (hop : ℕ) (es : List (String Global × ℕ)) →
    map route_view (insert_entry string_eq es name hop) ≡ with_route (map route_view es) (string_bytes name, hop)
set_by_bytes name hop [] = refl
set_by_bytes name hop (e ∷ es) = set_in_rest name hop e es (string_eq name e.0) (set_by_bytes name hop es)

one_option : (r : Option Route) → cons_option r [] ≡ option_to_list r
one_option None = refl
one_option (Some r) = refl

one_or_none : (r : Option Route) → 0 + cond (is_some r) 1 0 ≡ option_len r
one_or_none None = refl
one_or_none (Some r) = refl

pub at_most_one : (r : Option Route) → option_len r ≤ 1
at_most_one None = omega arith
at_most_one (Some r) = omega arith

-- the routes of calls, one command further along a script
pub calls_one_more : (script : List Command) (i : ℕ) (c : Command) → i < length script → c ≡ get_or script i c →
    routes_of_calls (take (i + 1) script) ≡ routes_of_calls (take i script) ++ option_to_list (route_in c)
calls_one_more script i c within is =
    ap routes_of_calls (take_more script i c within)
    ∙ filter_map-append route_in (take i script) (get_or script i c ∷ [])
    ∙ ap (λ it. routes_of_calls (take i script) ++ cons_option (route_in it) []) (sym is)
    ∙ ap (λ more. routes_of_calls (take i script) ++ more) (one_option (route_in c))

-- and how many they are
pub count_one_more : (script : List Command) (i : ℕ) (c : Command) → i < length script → c ≡ get_or script i c →
    count_by is_call (take (i + 1) script) ≡ count_by is_call (take i script) + option_len (route_in c)
count_one_more script i c within is =
    let whole : count_by is_call (take (i + 1) script) ≡ count_by is_call (take i script ++ get_or script i c ∷ []) = ap (count_by is_call) (take_more script i c within) in
    let parts : count_by is_call (take i script ++ get_or script i c ∷ []) ≡ count_by is_call (take i script) + count_by is_call (get_or script i c ∷ []) =
    sum_by-append (λ x. cond (is_call x) 1 0) (take i script) (get_or script i c ∷ []) in
    let one : count_by is_call (get_or script i c ∷ []) ≡ option_len (route_in c) = ap (λ x. 0 + cond (is_call x) 1 0) (sym is) ∙ one_or_none (route_in c) in
    omega (arith, whole, parts, one)

-- one route further along a list
pub set_one_more : (routes found : List Route) (r : Route) → with_routes routes (found ++ r ∷ []) ≡ with_route (with_routes routes found) r
set_one_more routes found r = fold-append with_route routes found (r ∷ [])

-- a clone has the same routes
pub routes_of_clone : (es cs : List (String Global × ℕ)) →
    AllZip (λ e c. (string_bytes c.0 ≡ string_bytes e.0) × (c.1 ≡ e.1)) es cs → map route_view cs ≡ map route_view es
routes_of_clone [] [] all = refl
routes_of_clone [] (c ∷ cs) all = elim all [ ]
routes_of_clone (e ∷ es) [] all = elim all [ ]
routes_of_clone (e ∷ es) (c ∷ cs) all = λ j. (all.0.0 j, all.0.1 j) ∷ routes_of_clone es cs all.1 j
