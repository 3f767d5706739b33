use Rattle.std.proofs.Common.{List, sym, ap, subst}
use Rattle.rcu_board.specs.declared.board.Seat.{Seat}
use Rattle.rcu_board.specs.declared.view.View.{View}
use Rattle.rcu_board.specs.Roles.{MayClaim}
use Rattle.rcu_board.specs.Opened.{InOrder, numbers_where, is_offloadable, IsNewProcessor, IsNewHand}
use Rattle.rcu_board.proofs.Rows.{in_order_two, for_each_two}
use Rattle.test_board.proofs.tests.take_two_apart.Goals as goal

pub returns-clause-first : goal.returns-clause-first
returns-clause-first g c = let b = c.args.board.now in (in_order_two (IsNewProcessor b) 0 _ _ (subst (λ (l : List Seat). InOrder (IsNewProcessor b) 0 l) c.both-first.ensures c.requires.processors)).0

pub returns-clause-second : goal.returns-clause-second
returns-clause-second g c = let b = c.args.board.now in (in_order_two (IsNewProcessor b) 0 _ _ (subst (λ (l : List Seat). InOrder (IsNewProcessor b) 0 l) c.both-first.ensures c.requires.processors)).1

pub returns-clause-first_hand : goal.returns-clause-first_hand
returns-clause-first_hand g c = let b = c.args.board.now in let s = c.args.shape.now in let t = (for_each_two (IsNewHand b) (numbers_where (is_offloadable s.offloadable) 0 s.processors) _ _ _ c.both-first_hand.ensures c.requires.hands).0 in
    (t.1.board, subst MayClaim (sym t.1.who) tt, ap (λ (v : View). v.running) t.1.first_view)

pub returns-clause-second_hand : goal.returns-clause-second_hand
returns-clause-second_hand g c = let b = c.args.board.now in let s = c.args.shape.now in let t = (for_each_two (IsNewHand b) (numbers_where (is_offloadable s.offloadable) 0 s.processors) _ _ _ c.both-first_hand.ensures c.requires.hands).1 in
    (t.1.board, subst MayClaim (sym t.1.who) tt, ap (λ (v : View). v.running) t.1.first_view)
