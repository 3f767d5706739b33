use Rattle.std.proofs.Common.{ℕ, ◌≡◌, ◌-◌, List, [], true, false, length, arith, sym, ap, subst}
use Rattle.rcu_board.specs.declared.board.Role.TheVariants.{Driver}
use Rattle.rcu_board.specs.declared.board.Seat.{Seat}
use Rattle.rcu_board.specs.declared.view.View.{View}
use Rattle.rcu_board.specs.Plays.{all_seats}
use Rattle.rcu_board.specs.Roles.{MayClaim}
use Rattle.rcu_board.specs.Opened.{InOrder, numbers_where, is_offloadable, has_offloadable, IsNew, IsNewProcessor, IsNewHand, IsNewGroup, rest_weight}
use Rattle.rcu_board.proofs.Rows.{in_order_one, for_each_one}
use Rattle.test_board.proofs.tests.take_apart.Goals as goal

pub returns-clause-processor : goal.returns-clause-processor
returns-clause-processor g c = let b = c.args.board.now in in_order_one (IsNewProcessor b) 0 c.only.result (subst (λ (l : List Seat). InOrder (IsNewProcessor b) 0 l) c.only.ensures c.requires.processors)

pub returns-clause-hand : goal.returns-clause-hand
returns-clause-hand g c = let b = c.args.board.now in let t = let s = c.args.shape.now in for_each_one (IsNewHand b) (numbers_where (is_offloadable s.offloadable) 0 s.processors) _ c.only-2.result c.only-2.ensures c.requires.hands in
    (t.1.board, subst MayClaim (sym t.1.who) tt, ap (λ (v : View). v.running) t.1.first_view, ap (λ (v : View). v.weight) t.1.first_view)

pub returns-clause-group : goal.returns-clause-group
returns-clause-group g c = let b = c.args.board.now in let t = let s = c.args.shape.now in for_each_one (IsNewGroup b) (numbers_where (has_offloadable s.offloadable s.stride s.processors) 0 s.processors) _ c.only-3.result c.only-3.ensures c.requires.groups in
    (t.1.board, ap (λ (v : View). v.running) t.1.first_view, ap (λ (v : View). v.weight) t.1.first_view)

pub returns-clause-driver : goal.returns-clause-driver
returns-clause-driver g c = let b = c.args.board.now in let s = c.args.seats in
    let p : length s.processors.items ≡ 1 = ap (λ (l : List Seat). length l) c.only.ensures in
    let h : length s.hands.items ≡ 1 = ap (λ (l : List Seat). length l) c.only-2.ensures in
    let g : length s.groups.items ≡ 1 = ap (λ (l : List Seat). length l) c.only-3.ensures in
    let e : rest_weight s ≡ all_seats - 4 = omega arith in
    subst (λ (w : ℕ). IsNew b Driver w true false [] s.driver) e c.requires.driver
