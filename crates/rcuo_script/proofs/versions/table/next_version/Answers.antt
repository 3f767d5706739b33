use Rattle.std.proofs.Common.{ap, ◌∙◌}
use Rattle.rcuo_script.specs.Routes.{with_route}
use Rattle.rcuo_script.proofs.Tables.{routes_of_clone}
use Rattle.std.proofs.lemmas.Result.{IfOk-from_err}
use Rattle.rcuo_script.proofs.versions.table.next_version.Goals as goal

pub returns-clause-routes : goal.returns-clause-routes
returns-clause-routes c =
    c.in_ok-set_route.ensures.routes
    ∙ ap (λ routes. with_route routes (c.args.name.now, c.args.hop))
    (routes_of_clone c.args.version.now.entries c.in_ok-copy.copy.entries c.in_ok-copy.ensures.cases)

pub returns-in_err-copy-clause-small : goal.returns-in_err-copy-clause-small
returns-in_err-copy-clause-small c = IfOk-from_err _ _ c.from_residual.ensures.0

pub returns-in_err-copy-clause-routes : goal.returns-in_err-copy-clause-routes
returns-in_err-copy-clause-routes c = IfOk-from_err _ _ c.from_residual.ensures.0

pub returns-in_err-set_route-clause-small : goal.returns-in_err-set_route-clause-small
returns-in_err-set_route-clause-small c = IfOk-from_err _ _ c.from_residual-in_err-set_route.ensures.0

pub returns-in_err-set_route-clause-routes : goal.returns-in_err-set_route-clause-routes
returns-in_err-set_route-clause-routes c = IfOk-from_err _ _ c.from_residual-in_err-set_route.ensures.0
