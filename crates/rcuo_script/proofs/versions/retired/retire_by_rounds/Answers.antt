use Rattle.std.proofs.lemmas.Result.{IfOk-from_err}
use Rattle.rcuo_script.proofs.versions.retired.retire_by_rounds.Goals as goal

pub returns-in_err-retire_round-clause-many : goal.returns-in_err-retire_round-clause-many
returns-in_err-retire_round-clause-many c = IfOk-from_err _ _ c.from_residual.ensures.0

pub returns-in_err-retire_round-clause-versions : goal.returns-in_err-retire_round-clause-versions
returns-in_err-retire_round-clause-versions c = λ first has. IfOk-from_err _ _ c.from_residual.ensures.0
