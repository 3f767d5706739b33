use Rattle.std.proofs.Common.{subst, sym, refl}
use Rattle.rcu_board.specs.Opened.{IsNewHand}
use Rattle.rcu_board.specs.declared.board.Board.{Board}
use Rattle.std.specs.Mem.{FitsInMemory}
use denote.Param.{param}
use Rattle.rcu_part_lists.proofs.Sizes.{in_struct}
use Rattle.rcu_part_hand.specs.contracts.hand.Hand as row
use Rattle.rcu_lists.proofs.Outcomes.{if_ok_never}
use Rattle.rcu_parts.proofs.Openings.{first_of_hands, has_hand}
use Rattle.rcu_part_group.specs.contracts.members.GroupMember as group_member
use Rattle.std.specs.Arc.{arc_value}
use Rattle.rcu_parts.proofs.opening.open_hand.Goals as goal

pub new-held-requires : goal.new-held-requires
new-held-requires g c = let h : FitsInMemory (row.the_row (param 0 g.row.J) (param 1 g.row.J-Receipt)) = assumption in (in_struct _ _ _ (in_struct _ _ _ (in_struct _ _ _ h)), c.in_ok-done_front.ensures.none_drawn)

pub new-hand-requires-after_bounds : goal.new-hand-requires-after_bounds
new-hand-requires-after_bounds g c κs within = let h : FitsInMemory (row.the_row (param 0 g.row.J) (param 1 g.row.J-Receipt)) = assumption in (in_struct _ _ _ (in_struct _ _ _ (in_struct _ _ _ h)), (h, (subst (λ (b : Board). IsNewHand b c.args.cpu c.args.seat) (sym c.in_ok-own.ensures) c.requires.seat, c.new-held.ensures.empty)))

pub returns-in_err-done_front : goal.returns-in_err-done_front
returns-in_err-done_front g c = let e = c.from_residual.ensures in record { group_member = if_ok_never _ _ e; hand = if_ok_never _ _ e; lane = if_ok_never _ _ e }

pub returns-in_err-member : goal.returns-in_err-member
returns-in_err-member g c = let e = c.from_residual-in_err-member.ensures in record { group_member = if_ok_never _ _ e; hand = if_ok_never _ _ e; lane = if_ok_never _ _ e }

pub returns-in_err-own : goal.returns-in_err-own
returns-in_err-own g c = let e = c.from_residual-in_err-own.ensures in record { group_member = if_ok_never _ _ e; hand = if_ok_never _ _ e; lane = if_ok_never _ _ e }

pub new-requires : goal.new-requires
new-requires g c = let h : FitsInMemory (group_member.the_row (param 0 g.row.J)) = assumption in (in_struct _ _ _ h, (c.requires.front, c.in_ok-done_front.ensures.none_put))

pub new-hand-requires-send-J : goal.new-hand-requires-send-J
new-hand-requires-send-J g c κs within = c.type_bounds.send-J

pub new-hand-requires-send-J-Receipt : goal.new-hand-requires-send-J-Receipt
new-hand-requires-send-J-Receipt g c κs within = c.type_bounds.send-J-Receipt

pub returns-clause-group_member : goal.returns-clause-group_member
returns-clause-group_member g c = let m = c.in_ok-member.ensures in (refl, m.ends.0, m.empty)

pub returns-clause-hand : goal.returns-clause-hand
returns-clause-hand g c = first_of_hands c.args.shape.now c.args.kept _ (arc_value c.args.board.now) c.args.cpu c.args.seat _ c.new-hand.result c.in_ok-own.ensures c.requires.seat c.new-held.ensures.empty c.new-hand.ensures.new

pub returns-clause-lane : goal.returns-clause-lane
returns-clause-lane g c = has_hand c.args.shape.now c.args.kept _ c.args.seat _ (record { cpu = c.args.cpu; member = c.in_ok-member.member }) c.new-hand.result _ _ c.new-hand.ensures.new c.new-held.ensures.front c.in_ok-member.ensures.ends.1 c.in_ok-done_front.ensures
