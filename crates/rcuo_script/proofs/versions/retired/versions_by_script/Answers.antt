use Rattle.std.proofs.lemmas.Result.{IfOk-from_err}
use Rattle.rcuo_script.proofs.versions.retired.versions_by_script.Goals as goal

pub returns-in_err-retiring-clause-many : goal.returns-in_err-retiring-clause-many
returns-in_err-retiring-clause-many c = IfOk-from_err _ _ c.from_residual.ensures.0

pub returns-in_err-retiring-clause-versions : goal.returns-in_err-retiring-clause-versions
returns-in_err-retiring-clause-versions c = IfOk-from_err _ _ c.from_residual.ensures.0

pub returns-in_err-retiring-clause-within : goal.returns-in_err-retiring-clause-within
returns-in_err-retiring-clause-within c = IfOk-from_err _ _ c.from_residual.ensures.0

pub returns-in_err-retire_by_script-clause-many : goal.returns-in_err-retire_by_script-clause-many
returns-in_err-retire_by_script-clause-many c = IfOk-from_err _ _ c.from_residual-in_err-retire_by_script.ensures.0

pub returns-in_err-retire_by_script-clause-versions : goal.returns-in_err-retire_by_script-clause-versions
returns-in_err-retire_by_script-clause-versions c = IfOk-from_err _ _ c.from_residual-in_err-retire_by_script.ensures.0

pub returns-in_err-retire_by_script-clause-within : goal.returns-in_err-retire_by_script-clause-within
returns-in_err-retire_by_script-clause-within c = IfOk-from_err _ _ c.from_residual-in_err-retire_by_script.ensures.0
