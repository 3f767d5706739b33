use Rattle.std.proofs.Common.{List, sym, ap, subst}
use Rattle.rcu_board.specs.declared.board.Seat.{Seat}
use Rattle.rcu_board.specs.declared.view.View.{View}
use Rattle.rcu_board.specs.Roles.{MayClaim}
use Rattle.rcu_board.specs.Opened.{InOrder, numbers_where, is_offloadable, IsNewProcessor, IsNewHand}
use Rattle.rcu_board.proofs.Rows.{in_order_one, for_each_one}
use Rattle.bench_board.proofs.seats.take_apart.Goals as goal

pub returns-clause-processor : goal.returns-clause-processor
returns-clause-processor c = let b = c.args.board.now in in_order_one (IsNewProcessor b) 0 c.in_ok-only.field-0 (subst (λ (l : List Seat). InOrder (IsNewProcessor b) 0 l) c.in_ok-only.ensures c.requires.processors)

pub returns-clause-hand : goal.returns-clause-hand
returns-clause-hand c = let b = c.args.board.now in let s = c.args.shape.now in let t = for_each_one (IsNewHand b) (numbers_where (is_offloadable s.offloadable) 0 s.processors) _ c.in_ok-only-2.field-0 c.in_ok-only-2.ensures c.requires.hands in
    (t.1.board, subst MayClaim (sym t.1.who) tt, ap (λ (v : View). v.running) t.1.first_view)
