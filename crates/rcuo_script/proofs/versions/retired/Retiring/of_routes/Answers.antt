use Rattle.std.proofs.Common.{arith, ap, map, ◌≡◌, ◌∙◌, []}
use Rattle.rcu_setup.specs.Arrays.{route_view, routes_view}
use Rattle.rcuo_script.specs.Routes.{bytes_of, routes_in, with_routes}
use Rattle.rcuo_script.specs.Versions.{shown}
use Rattle.std.proofs.lemmas.Result.{IfOk-from_err}
use Rattle.rcuo_script.proofs.versions.retired.Retiring.of_routes.Goals as goal

pub returns-clause-first : goal.returns-clause-first
returns-clause-first c =
    let current : routes_in c.in_ok-current.current ≡ with_routes [] (routes_view c.args.setup.now.routes) =
    c.in_ok-current.ensures.routes ∙ ap (λ routes. with_routes [] (map route_view routes)) c.as_slice.ensures.value in
    let bytes : c.in_ok-current.bytes ≡ bytes_of (with_routes [] (routes_view c.args.setup.now.routes)) = c.in_ok-current.ensures.bytes ∙ ap bytes_of current in
    let room = c.in-Some.ensures in
    record {
      current = current;
      versions = ap (map shown) c.new.ensures.items;
      bytes = bytes;
      budget = omega (arith, room.0, room.1, bytes);
    }

pub returns-in_err-current-clause-none : goal.returns-in_err-current-clause-none
returns-in_err-current-clause-none c = IfOk-from_err _ _ c.from_residual.ensures.0

pub returns-in_err-current-clause-first : goal.returns-in_err-current-clause-first
returns-in_err-current-clause-first c = IfOk-from_err _ _ c.from_residual.ensures.0

pub returns-in_err-current-clause-small : goal.returns-in_err-current-clause-small
returns-in_err-current-clause-small c = IfOk-from_err _ _ c.from_residual.ensures.0
