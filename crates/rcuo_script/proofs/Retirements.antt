-- One call further along those that retire versions.
use Rattle.std.proofs.Common.{◌≡◌, ℕ, suc, ◌+◌, ◌++◌, ◌∙◌, [], ◌∷◌, List, ap, refl, arith, length}
use Rattle.rcu_setup.specs.Words.{Route}
use Rattle.rcuo_script.specs.Routes.{with_route, with_routes}
use Rattle.rcuo_script.specs.Versions.{key_of, retired_from}

-- it retires what the calls before it made
pub retires_one_more : (v : ℕ) (first calls : List Route) (call : Route) →
    retired_from v first (calls ++ call ∷ [])
    ≡ retired_from v first calls ++ (key_of (v + length calls) (with_routes first calls), with_routes first calls) ∷ []
retires_one_more v first [] call = ap (λ k. (key_of k first, first) ∷ []) (omega arith)
retires_one_more v first (c ∷ calls) call =
    ap (λ rest. (key_of v first, first) ∷ rest)
    (retires_one_more (v + 1) (with_route first c) calls call
    ∙ ap (λ k. retired_from (v + 1) (with_route first c) calls ++ (key_of k (with_routes first (c ∷ calls)), with_routes first (c ∷ calls)) ∷ []) (omega arith))

pub length-retired_from : (v : ℕ) (first calls : List Route) → length (retired_from v first calls) ≡ length calls
length-retired_from v first [] = refl
length-retired_from v first (c ∷ calls) = ap suc (length-retired_from (v + 1) (with_route first c) calls)
