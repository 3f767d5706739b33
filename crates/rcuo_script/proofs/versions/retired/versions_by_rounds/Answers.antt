use Rattle.std.proofs.lemmas.Result.{IfOk-from_err}
use Rattle.rcuo_script.proofs.versions.retired.versions_by_rounds.Goals as goal

pub returns-in_err-retiring-clause-many : goal.returns-in_err-retiring-clause-many
returns-in_err-retiring-clause-many c = IfOk-from_err _ _ c.from_residual.ensures.0

pub returns-in_err-retiring-clause-versions : goal.returns-in_err-retiring-clause-versions
returns-in_err-retiring-clause-versions c = IfOk-from_err _ _ c.from_residual.ensures.0

pub returns-in_err-retiring-clause-within : goal.returns-in_err-retiring-clause-within
returns-in_err-retiring-clause-within c = IfOk-from_err _ _ c.from_residual.ensures.0

pub returns-in_err-retire_by_rounds-clause-many : goal.returns-in_err-retire_by_rounds-clause-many
returns-in_err-retire_by_rounds-clause-many c = IfOk-from_err _ _ c.from_residual-in_err-retire_by_rounds.ensures.0

pub returns-in_err-retire_by_rounds-clause-versions : goal.returns-in_err-retire_by_rounds-clause-versions
returns-in_err-retire_by_rounds-clause-versions c = IfOk-from_err _ _ c.from_residual-in_err-retire_by_rounds.ensures.0

pub returns-in_err-retire_by_rounds-clause-within : goal.returns-in_err-retire_by_rounds-clause-within
returns-in_err-retire_by_rounds-clause-within c = IfOk-from_err _ _ c.from_residual-in_err-retire_by_rounds.ensures.0
