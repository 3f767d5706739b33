use Rattle.std.proofs.lemmas.Result.{IfOk-from_err}
use Rattle.rcuo_script.proofs.versions.table.first_version.Goals as goal

pub returns-in_err-set_route-clause-small : goal.returns-in_err-set_route-clause-small
returns-in_err-set_route-clause-small c = IfOk-from_err _ _ c.from_residual.ensures.0

pub returns-in_err-set_route-clause-routes : goal.returns-in_err-set_route-clause-routes
returns-in_err-set_route-clause-routes c = IfOk-from_err _ _ c.from_residual.ensures.0

pub returns-in_err-set_route-clause-bytes : goal.returns-in_err-set_route-clause-bytes
returns-in_err-set_route-clause-bytes c = IfOk-from_err _ _ c.from_residual.ensures.0
