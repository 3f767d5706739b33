use Rattle.std.proofs.Common.{ℕ, List, sym, ap, subst}
use Rattle.rcu_board.specs.declared.board.Seat.{Seat}
use Rattle.rcu_board.specs.Roles.{MayNeed, cpu_of_role}
use Rattle.rcu_board.specs.Opened.{InOrder, numbers_where, is_offloadable, has_offloadable, IsNewProcessor, IsNewHand, IsNewGroup}
use Rattle.rcu_board.proofs.Rows.{in_order_one, for_each_one}
use Rattle.test_parts.proofs.tests.take_apart.Goals as goal

pub returns-clause-processor : goal.returns-clause-processor
returns-clause-processor g c = let b = c.args.board.now in in_order_one (IsNewProcessor b) 0 c.only.result (subst (λ (l : List Seat). InOrder (IsNewProcessor b) 0 l) c.only.ensures c.requires.processors)

pub returns-clause-hand : goal.returns-clause-hand
returns-clause-hand g c = let b = c.args.board.now in let s = c.args.shape.now in
    let t = for_each_one (IsNewHand b) (numbers_where (is_offloadable s.offloadable) 0 s.processors) _ c.only-2.result c.only-2.ensures c.requires.hands in
    subst (λ (k : ℕ). IsNewHand b k c.only-2.result) (sym (ap cpu_of_role t.1.who)) t.1

pub returns-clause-group : goal.returns-clause-group
returns-clause-group g c = let b = c.args.board.now in let s = c.args.shape.now in
    let t = for_each_one (IsNewGroup b) (numbers_where (has_offloadable s.offloadable s.stride s.processors) 0 s.processors) _ c.only-3.result c.only-3.ensures c.requires.groups in
    (t.1.board, subst MayNeed (sym t.1.who) tt)
