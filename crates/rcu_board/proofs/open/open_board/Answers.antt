use Rattle.std.proofs.lemmas.Result.{IfOk-from_err}
use Rattle.rcu_board.proofs.open.open_board.Goals as goal

pub returns-in_err-board-clause-shape : goal.returns-in_err-board-clause-shape
returns-in_err-board-clause-shape c = IfOk-from_err _ _ c.from_residual.ensures.0

pub returns-in_err-board-clause-seats : goal.returns-in_err-board-clause-seats
returns-in_err-board-clause-seats c = IfOk-from_err _ _ c.from_residual.ensures.0

pub returns-in_err-processors-clause-shape : goal.returns-in_err-processors-clause-shape
returns-in_err-processors-clause-shape c = IfOk-from_err _ _ c.from_residual-in_err-processors.ensures.0

pub returns-in_err-processors-clause-seats : goal.returns-in_err-processors-clause-seats
returns-in_err-processors-clause-seats c = IfOk-from_err _ _ c.from_residual-in_err-processors.ensures.0

pub returns-in_err-hands-clause-shape : goal.returns-in_err-hands-clause-shape
returns-in_err-hands-clause-shape c = IfOk-from_err _ _ c.from_residual-in_err-hands.ensures.0

pub returns-in_err-hands-clause-seats : goal.returns-in_err-hands-clause-seats
returns-in_err-hands-clause-seats c = IfOk-from_err _ _ c.from_residual-in_err-hands.ensures.0

pub returns-in_err-groups-clause-shape : goal.returns-in_err-groups-clause-shape
returns-in_err-groups-clause-shape c = IfOk-from_err _ _ c.from_residual-in_err-groups.ensures.0

pub returns-in_err-groups-clause-seats : goal.returns-in_err-groups-clause-seats
returns-in_err-groups-clause-seats c = IfOk-from_err _ _ c.from_residual-in_err-groups.ensures.0
