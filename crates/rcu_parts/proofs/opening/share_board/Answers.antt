use Rattle.std.proofs.Common.{◌∙◌, ap, sym}
use Rattle.std.proofs.Math.Path.{subst}
use Rattle.rcu_board.specs.Opened.{AreNew}
use Rattle.rcu_board.specs.declared.board.Board.{Board}
use Rattle.rcu_lists.proofs.Outcomes.{if_ok_never}
use Rattle.rcu_parts.proofs.opening.share_board.Goals as goal

pub returns-in_err-board : goal.returns-in_err-board
returns-in_err-board c = let e = c.from_residual.ensures in record { many = if_ok_never _ _ e; mask = if_ok_never _ _ e; same = if_ok_never _ _ e; seats = if_ok_never _ _ e }

pub returns-in_err-board-2 : goal.returns-in_err-board-2
returns-in_err-board-2 c = let e = c.from_residual-in_err-board-2.ensures in record { many = if_ok_never _ _ e; mask = if_ok_never _ _ e; same = if_ok_never _ _ e; seats = if_ok_never _ _ e }

pub returns-in_err-drivers : goal.returns-in_err-drivers
returns-in_err-drivers c = let e = c.from_residual-in_err-drivers.ensures in record { many = if_ok_never _ _ e; mask = if_ok_never _ _ e; same = if_ok_never _ _ e; seats = if_ok_never _ _ e }

pub returns-clause-many : goal.returns-clause-many
returns-clause-many c = ap (λ (b : Board). b.processors) c.in_ok-board-2.ensures.ok ∙ c.in_ok-board.ensures.shape.0

pub returns-clause-mask : goal.returns-clause-mask
returns-clause-mask c = ap (λ (b : Board). b.offloadable) c.in_ok-board-2.ensures.ok ∙ c.in_ok-board.ensures.shape.1

pub returns-clause-same : goal.returns-clause-same
returns-clause-same c = c.in_ok-drivers.ensures

pub returns-clause-seats : goal.returns-clause-seats
returns-clause-seats c = subst (λ (b : Board). AreNew c.args.shape.now b c.in_ok-board.seats) (sym c.in_ok-board-2.ensures.ok) c.in_ok-board.ensures.seats
