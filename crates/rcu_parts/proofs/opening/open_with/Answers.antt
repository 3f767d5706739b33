use Rattle.std.proofs.Common.{◌≡◌, ℕ, ◌-◌, true, false, List, [], length, ap, sym, ◌∙◌, subst}
use Rattle.std.specs.Arc.{arc_value}
use Rattle.std.specs.List.{AllZip}
use Rattle.std.specs.Mem.{FitsInMemory}
use denote.Param.{param}
use Rattle.rcu_board.specs.Opened.{AreNew, IsNewGroup, IsNewHand, has_offloadable, is_offloadable, numbers_where}
use Rattle.rcu_board.specs.Opened.{IsNew as IsNewSeat}
use Rattle.rcu_board.specs.Plays.{all_seats}
use Rattle.rcu_board.specs.Seats.{AtBoard, view}
use Rattle.rcu_board.specs.declared.board.Board.{Board}
use Rattle.rcu_board.specs.declared.board.Role.TheVariants.{Control, Driver}
use Rattle.rcu_board.specs.declared.board.Seat.{Seat}
use Rattle.rcu_board.specs.declared.view.View.{View}
use Rattle.rcu_part_control.specs.Parts.{control_board}
use Rattle.rcu_part_lists.proofs.Sizes.{in_struct}
use Rattle.rcu_parts.specs.OneOpen.{HasHand, members_in}
use Rattle.rcu_parts.specs.Openings.{AreFirstGroups, AreFirstHands, AreFirstProcessors}
use Rattle.rcu_part_group.specs.contracts.group.Group as group
use Rattle.rcu_part_hand.specs.contracts.hand.Hand as hand
use Rattle.rcu_part_processor.specs.contracts.processor.Processor as processor
use Rattle.rcu_part_group.specs.declared.members.GroupMember.{GroupMember}
use Rattle.rcu_parts.proofs.Whole.{all_weigh, are_in_order, as_many, groups_here, groups_of_board, groups_weigh, hands_here, hands_of_board, hands_sound, hands_weigh, have_members, is_bare, many_fronts, none_drawn, offloadable_cpus, processors_sound, processors_weigh}
use Rattle.rcu_parts.proofs.Zips.{as_many_seats}
use Rattle.rcu_lists.proofs.Outcomes.{if_ok_never}
use Rattle.rcu_parts.proofs.opening.open_with.Goals as goal

pub open_processors-requires-after_bounds : goal.open_processors-requires-after_bounds
open_processors-requires-after_bounds g c κs within = let shape = c.args.shape.now in let s = c.in_ok-board.seats in let b = arc_value c.in_ok-board.board in
    let new = c.in_ok-board.ensures.seats in let many = c.in_ok-board.ensures.many in let mask = c.in_ok-board.ensures.mask in
    let fits : FitsInMemory (processor.the_row (param 0 g.row.J) (param 1 g.row.J-Receipt)) = assumption in
    (fits, (new.processors, new.as_many ∙ sym many))

pub open_hands-requires-after_bounds : goal.open_hands-requires-after_bounds
open_hands-requires-after_bounds g c κs within = let shape = c.args.shape.now in let s = c.in_ok-board.seats in let b = arc_value c.in_ok-board.board in
    let new = c.in_ok-board.ensures.seats in let many = c.in_ok-board.ensures.many in let mask = c.in_ok-board.ensures.mask in
    let ps = c.in_ok-processors.processors.items in let first = c.in_ok-processors.ensures.processors in let fronts = c.in_ok-processors.ensures.fronts in
    let ks = numbers_where (is_offloadable b.offloadable) 0 b.processors in let cpus = offloadable_cpus shape c.args.kept b 0 b.processors ps first in
    let hand_fits : FitsInMemory (hand.the_row (param 0 g.row.J) (param 1 g.row.J-Receipt)) = assumption in
    let group_fits : FitsInMemory (group.the_row (param 0 g.row.J) (param 1 g.row.J-Receipt)) = assumption in
    let seats = hands_of_board shape b s new many mask in
    (in_struct _ _ _ (in_struct _ _ _ (in_struct _ _ _ group_fits)), (hand_fits, (seats, (many_fronts ps c.in_ok-processors.fronts.items ks fronts cpus ∙ sym (as_many_seats (IsNewHand b) ks s.hands.items seats), none_drawn ps c.in_ok-processors.fronts.items fronts))))

pub open_groups-requires-after_bounds : goal.open_groups-requires-after_bounds
open_groups-requires-after_bounds g c κs within = let shape = c.args.shape.now in let s = c.in_ok-board.seats in let b = arc_value c.in_ok-board.board in
    let new = c.in_ok-board.ensures.seats in let many = c.in_ok-board.ensures.many in let mask = c.in_ok-board.ensures.mask in
    let fits : FitsInMemory (group.the_row (param 0 g.row.J) (param 1 g.row.J-Receipt)) = assumption in
    (in_struct _ _ _ (in_struct _ _ _ (in_struct _ _ _ fits)), (fits, (groups_of_board shape b s new many mask, (c.in_ok-group_members.ensures.cpus, c.in_ok-group_members.ensures.empty))))

pub new-requires-clause-here : goal.new-requires-clause-here
new-requires-clause-here g c = c.in_ok-board.ensures.seats.control.board

pub new-requires-clause-role : goal.new-requires-clause-role
new-requires-clause-role g c = c.in_ok-board.ensures.seats.control.who

pub new-requires-clause-bare : goal.new-requires-clause-bare
new-requires-clause-bare g c = let b = arc_value c.in_ok-board.board in is_bare b.processors b.offloadable 1 false true (view c.in_ok-board.seats.control) c.in_ok-board.ensures.seats.control.first_view

pub new-driver-requires-clause-here : goal.new-driver-requires-clause-here
new-driver-requires-clause-here g c = let made = c.in_ok-board.ensures in subst (λ (b : Board). AtBoard b c.in_ok-board.seats.driver) (sym made.same) made.seats.driver.board

pub new-driver-requires-clause-role : goal.new-driver-requires-clause-role
new-driver-requires-clause-role g c = c.in_ok-board.ensures.seats.driver.who

pub new-driver-requires-clause-bare : goal.new-driver-requires-clause-bare
new-driver-requires-clause-bare g c = let b = arc_value c.in_ok-board.board in is_bare b.processors b.offloadable _ true false (view c.in_ok-board.seats.driver) c.in_ok-board.ensures.seats.driver.first_view

pub returns-clause-opened : goal.returns-clause-opened
returns-clause-opened g c = let shape = c.args.shape.now in let s = c.in_ok-board.seats in let b = arc_value c.in_ok-board.board in
    let new = c.in_ok-board.ensures.seats in let many = c.in_ok-board.ensures.many in let mask = c.in_ok-board.ensures.mask in
    let at : b ≡ control_board c.new.result = sym c.new.ensures.board in record {
      many = ap (λ (x : Board). x.processors) (sym at) ∙ many;
      mask = ap (λ (x : Board). x.offloadable) (sym at) ∙ mask;
      processors = subst (λ (x : Board). AreFirstProcessors shape c.args.kept x c.in_ok-processors.processors.items) at c.in_ok-processors.ensures.processors;
      hands = subst (λ (x : Board). AreFirstHands shape c.args.kept x c.in_ok-group_members.hands.items) at c.in_ok-group_members.ensures.hands;
      groups = subst (λ (x : Board). AreFirstGroups shape x c.in_ok-groups.groups.items) at c.in_ok-groups.ensures.groups;
      control = subst (λ (t : Seat). IsNewSeat (control_board c.new.result) Control 1 false true [] t) (sym c.new.ensures.seat) (subst (λ (x : Board). IsNewSeat x Control 1 false true [] s.control) at new.control);
      driver = subst (λ (t : Seat). IsNewSeat (control_board c.new.result) Driver (view t).weight true false [] t) (sym c.new-driver.ensures.seat)
          (subst (λ (x : Board). IsNewSeat x Driver (view s.driver).weight true false [] s.driver) at (subst (λ (w : ℕ). IsNewSeat b Driver w true false [] s.driver) (sym (ap (λ (v : View). v.weight) new.driver.first_view)) new.driver));
    }

pub returns-clause-one : goal.returns-clause-one
returns-clause-one g c = let shape = c.args.shape.now in let s = c.in_ok-board.seats in let b = arc_value c.in_ok-board.board in
    let new = c.in_ok-board.ensures.seats in let many = c.in_ok-board.ensures.many in let mask = c.in_ok-board.ensures.mask in
    let ps = c.in_ok-processors.processors.items in let first = c.in_ok-processors.ensures.processors in let fronts = c.in_ok-processors.ensures.fronts in
    let ks = numbers_where (is_offloadable b.offloadable) 0 b.processors in let cpus = offloadable_cpus shape c.args.kept b 0 b.processors ps first in
    let at : b ≡ control_board c.new.result = sym c.new.ensures.board in let top = control_board c.new.result in
    let here = subst (λ (x : Board). AreFirstProcessors shape c.args.kept x ps) at first in
    let hands = subst (λ (x : Board). AreFirstHands shape c.args.kept x c.in_ok-group_members.hands.items) at c.in_ok-group_members.ensures.hands in
    let groups = subst (λ (x : Board). AreFirstGroups shape x c.in_ok-groups.groups.items) at c.in_ok-groups.ensures.groups in
    let cs = numbers_where (is_offloadable top.offloadable) 0 top.processors in let gs = numbers_where (has_offloadable top.offloadable shape.stride top.processors) 0 top.processors in
    let atop = subst (λ (x : Board). AreNew shape x s) at new in let n : top.processors ≡ shape.processors = ap (λ (x : Board). x.processors) (sym at) ∙ many in let o : top.offloadable ≡ shape.offloadable = ap (λ (x : Board). x.offloadable) (sym at) ∙ mask in record {
      driver = c.new-driver.ensures.board ∙ c.in_ok-board.ensures.same ∙ at;
      processors = are_in_order shape c.args.kept top 0 top.processors ps here;
      as_many = as_many shape c.args.kept top ps here;
      groups = groups_here shape c.args.kept top gs c.in_ok-groups.groups.items groups;
      hands = hands_here shape c.args.kept top cs c.in_ok-group_members.hands.items hands;
      members = have_members ps c.in_ok-processors.fronts.items c.in_ok-group_members.group_members.items (members_in c.in_ok-groups.groups.items) ks fronts cpus c.in_ok-group_members.ensures.fronts c.in_ok-group_members.ensures.cpus c.in_ok-groups.ensures.members;
      running = subst (λ (ms : List (GroupMember g.row.J.Denot)). AllZip HasHand ms c.in_ok-group_members.hands.items) (sym c.in_ok-groups.ensures.members) c.in_ok-group_members.ensures.lanes;
      weighs = all_weigh _ _ _ _ _ (length s.processors.items) (length s.hands.items) (length s.groups.items) (all_seats - length s.processors.items - length s.hands.items - length s.groups.items - 1) all_seats
          (ap (λ (t : Seat). (view t).weight) c.new.ensures.seat ∙ ap (λ (v : View). v.weight) new.control.first_view)
          (ap (λ (t : Seat). (view t).weight) c.new-driver.ensures.seat ∙ ap (λ (v : View). v.weight) new.driver.first_view)
          (groups_weigh shape c.args.kept top gs c.in_ok-groups.groups.items groups ∙ sym (as_many_seats (IsNewGroup top) gs s.groups.items (groups_of_board shape top s atop n o)))
          (processors_weigh shape c.args.kept top _ ps here ∙ as_many shape c.args.kept top ps here ∙ n ∙ sym new.as_many)
          (hands_weigh shape c.args.kept top cs c.in_ok-group_members.hands.items hands ∙ sym (as_many_seats (IsNewHand top) cs s.hands.items (hands_of_board shape top s atop n o)))
          new.weighs;
    }

pub returns-clause-sound : goal.returns-clause-sound
returns-clause-sound g c = let b = arc_value c.in_ok-board.board in record {
  processors = processors_sound c.args.shape.now c.args.kept b g.J.Job.key_of g.J.Job.gives _ c.in_ok-processors.processors.items c.in_ok-processors.ensures.processors;
  hands = hands_sound c.args.shape.now c.args.kept b g.J.Job.key_of g.J.Job.gives _ c.in_ok-group_members.hands.items c.in_ok-group_members.ensures.hands;
}

pub returns-in_err-board : goal.returns-in_err-board
returns-in_err-board g c = let e = c.from_residual.ensures in record { opened = if_ok_never _ _ e; one = if_ok_never _ _ e; sound = if_ok_never _ _ e }

pub returns-in_err-processors : goal.returns-in_err-processors
returns-in_err-processors g c = let e = c.from_residual-in_err-processors.ensures in record { opened = if_ok_never _ _ e; one = if_ok_never _ _ e; sound = if_ok_never _ _ e }

pub returns-in_err-group_members : goal.returns-in_err-group_members
returns-in_err-group_members g c = let e = c.from_residual-in_err-group_members.ensures in record { opened = if_ok_never _ _ e; one = if_ok_never _ _ e; sound = if_ok_never _ _ e }

pub returns-in_err-groups : goal.returns-in_err-groups
returns-in_err-groups g c = let e = c.from_residual-in_err-groups.ensures in record { opened = if_ok_never _ _ e; one = if_ok_never _ _ e; sound = if_ok_never _ _ e }

pub open_processors-requires-send-J : goal.open_processors-requires-send-J
open_processors-requires-send-J g c κs within = c.type_bounds.send-J

pub open_processors-requires-send-J-Receipt : goal.open_processors-requires-send-J-Receipt
open_processors-requires-send-J-Receipt g c κs within = c.type_bounds.send-J-Receipt

pub open_hands-requires-send-J : goal.open_hands-requires-send-J
open_hands-requires-send-J g c κs within = c.type_bounds.send-J

pub open_hands-requires-send-J-Receipt : goal.open_hands-requires-send-J-Receipt
open_hands-requires-send-J-Receipt g c κs within = c.type_bounds.send-J-Receipt

pub drop-processors-requires-room-T-Destruct : goal.drop-processors-requires-room-T-Destruct
drop-processors-requires-room-T-Destruct g c κs within = assumption

pub open_groups-requires-send-J : goal.open_groups-requires-send-J
open_groups-requires-send-J g c κs within = c.type_bounds.send-J

pub open_groups-requires-send-J-Receipt : goal.open_groups-requires-send-J-Receipt
open_groups-requires-send-J-Receipt g c κs within = c.type_bounds.send-J-Receipt

pub drop-hands-requires-in_err-groups-room-T-Destruct : goal.drop-hands-requires-in_err-groups-room-T-Destruct
drop-hands-requires-in_err-groups-room-T-Destruct g c κs within = assumption

pub drop-processors-requires-in_err-groups-room-T-Destruct : goal.drop-processors-requires-in_err-groups-room-T-Destruct
drop-processors-requires-in_err-groups-room-T-Destruct g c κs within = assumption
