use Rattle.std.proofs.Common.{arith, ap, sym, ◌∙◌}
use Rattle.rcu_board.proofs.Roles.{claims_near}
use Rattle.rcu_board.proofs.TwoSteps.{going_on_allowed}
use Rattle.rcu_board.proofs.steps.go_on.Goals as goal

pub fetch_add-requires : goal.fetch_add-requires
fetch_add-requires c = let b = c.args.board.now in let w = b.sized in let k = b.framed in let s = c.args.seat.now.of_role in let near = claims_near _ _ c.args.seat.now.seat.me s c.requires.who in let fit = ap (λ z. z.words) c.requires.board in let p = c.cpu-p.ensures in let r = c.requires.runs in
    (c.requires.board, omega arith, going_on_allowed _ _ _ _ c.args.seat.now.seat.me s.can_step.live c.cpu-p.result (omega arith) r.claim r.alone (r.cpu ∙ sym p) r.small)

pub overflow_mul-p : goal.overflow_mul-p
overflow_mul-p c = let b = c.args.board.now in let w = b.sized in let few = b.few in let near = claims_near _ _ c.args.seat.now.seat.me c.args.seat.now.of_role c.requires.who in let fit = ap (λ z. z.words) c.requires.board in let p = c.cpu-p.ensures in omega arith

pub overflow_add-p : goal.overflow_add-p
overflow_add-p c = let b = c.args.board.now in let w = b.sized in let few = b.few in let near = claims_near _ _ c.args.seat.now.seat.me c.args.seat.now.of_role c.requires.who in let fit = ap (λ z. z.words) c.requires.board in let p = c.cpu-p.ensures in omega arith
