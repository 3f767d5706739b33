use Rattle.std.proofs.Common.{ap, ◌∙◌, map}
use Rattle.rcu_setup.specs.Arrays.{route_view}
use Rattle.rcuo_script.specs.Routes.{with_route, routes_in}
use Rattle.rcuo_script.proofs.Tables.{set_by_bytes}
use Rattle.std.proofs.lemmas.Result.{IfOk-from_err}
use Rattle.rcuo_script.proofs.versions.table.set_route.Goals as goal

pub returns-clause-routes : goal.returns-clause-routes
returns-clause-routes c =
    ap (map route_view) c.in_ok-insert.ensures.entries
    ∙ set_by_bytes c.in_ok-name.name c.args.hop c.args.version.now.entries
    ∙ ap (λ n. with_route (routes_in c.args.version.now) (n, c.args.hop)) c.in_ok-name.ensures.ok

pub returns-in_err-name-clause-small : goal.returns-in_err-name-clause-small
returns-in_err-name-clause-small c = IfOk-from_err _ _ c.from_residual.ensures.0

pub returns-in_err-name-clause-routes : goal.returns-in_err-name-clause-routes
returns-in_err-name-clause-routes c = IfOk-from_err _ _ c.from_residual.ensures.0

pub returns-in_err-insert-clause-small : goal.returns-in_err-insert-clause-small
returns-in_err-insert-clause-small c = IfOk-from_err _ _ c.from_residual-in_err-insert.ensures.0

pub returns-in_err-insert-clause-routes : goal.returns-in_err-insert-clause-routes
returns-in_err-insert-clause-routes c = IfOk-from_err _ _ c.from_residual-in_err-insert.ensures.0
