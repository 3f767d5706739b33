use Rattle.std.proofs.Common.{◌≡◌, ℕ, arith, List, [], ◌∷◌, ◌++◌, length, ap, sym, ◌∙◌, subst}
use Rattle.std.specs.Prelude.{All}
use Rattle.std.specs.Arc.{arc_value}
use Rattle.std.specs.List.{AllZip}
use Rattle.std.specs.Mem.{FitsInMemory}
use denote.Param.{param}
use Rattle.std.proofs.lemmas.List.{nil_from_length}
use Rattle.std.proofs.lemmas.List.Elements.{All-head, All-nil, All-push, All-tail}
use Rattle.rcu_board.specs.Opened.{IsNewHand, SeatForEach, is_offloadable, numbers_where}
use Rattle.rcu_board.specs.Roles.{cpu_of_role}
use Rattle.rcu_board.specs.declared.board.Seat.{Seat}
use Rattle.rcu_part_lists.specs.declared.limits.LaneLimits.{LaneLimits}
use Rattle.rcu_lanes.specs.Ends.{items_drawn}
use Rattle.rcu_lanes.specs.declared.ends.Front.{Front}
use Rattle.rcu_lists.specs.declared.parcel.Parcel.{Parcel}
use Rattle.rcu_part_group.specs.GroupLaw.{cpus_of}
use Rattle.rcu_part_group.specs.Groups.{IsEmptyGroupMember}
use Rattle.rcu_parts.specs.Openings.{IsFirstHand, fronts_of}
use Rattle.rcu_part_group.specs.contracts.members.GroupMember as group_member
use Rattle.rcu_part_hand.specs.contracts.hand.Hand as hand
use Rattle.rcu_part_group.specs.declared.members.GroupMember.{GroupMember}
use Rattle.rcu_parts.proofs.Making.{hands_more, hands_none, made_more}
use Rattle.rcu_parts.proofs.Zips.{seat_and_rest, seats_over}
use Rattle.rcu_parts.proofs.opening.open_hands.Given.{Over}
use Rattle.rcu_lists.proofs.Outcomes.{if_ok_never}
use Rattle.rcu_parts.proofs.Passing.{never_popped, room_begun, room_kept, room_now}
use Rattle.rcu_parts.proofs.opening.open_hands.Goals.{After-push_reserved}
use Rattle.rcu_parts.proofs.opening.open_hands.Goals as goal
use Rattle.rcu_lemmas.proofs.Zips.{all_of}

hand_fits : (g : Over) (c : goal.After-into_iter-seat-iterator g) → FitsInMemory (hand.the_row (param 0 g.row.J) (param 1 g.row.J-Receipt))
hand_fits g c = assumption

group_member_fits : (g : Over) (c : goal.After-into_iter-seat-iterator g) → FitsInMemory (group_member.the_row (param 0 g.row.J))
group_member_fits g c = assumption

pub loop-seat-init : goal.loop-seat-init
loop-seat-init g c = let b = arc_value c.args.board.now in let ks = numbers_where (is_offloadable b.offloadable) 0 b.processors in let none = c.in_ok-group_members.ensures.items in let e = c.into_iter-seat-iterator.ensures.into_iter_gives.0 in let n = c.args.seats.ok.0 in
    let hands = hands_none c.args.shape.now c.args.kept b c.in_ok-group_members.group_members.items c.in_ok-hands.hands.items none c.in_ok-hands.ensures.items in record {
      left = ks;
      all = ap (λ (l : List (GroupMember g.row.J.Denot)). cpus_of l ++ ks) none;
      seats = subst (SeatForEach (IsNewHand b) ks) (sym e) c.requires.seats;
      many = c.requires.many ∙ ap (λ (l : List Seat). length l) (sym e);
      drawn = c.requires.fronts;
      fronts = ap (λ (l : List (GroupMember g.row.J.Denot)). fronts_of l ++ c.args.fronts.items) none;
      empty = subst (All IsEmptyGroupMember) (sym none) (All-nil IsEmptyGroupMember);
      hands = hands.0;
      lanes = hands.1;
      for_members = room_begun _ _ _ _ _ _ e c.len-many.ensures n c.in_ok-group_members.ensures.len c.in_ok-group_members.ensures.capacity;
      for_hands = room_begun _ _ _ _ _ _ e c.len-many.ensures n c.in_ok-hands.ensures.len c.in_ok-hands.ensures.capacity;
    }

pub push_back_reserved-requires : goal.push_back_reserved-requires
push_back_reserved-requires g c = room_now _ _ _ _ _ c.in-Some.ensures.steps.0 c.loop-seat.invariant.for_members

pub push_reserved-requires : goal.push_reserved-requires
push_reserved-requires g c = room_now _ _ _ _ _ c.in-Some.ensures.steps.0 c.loop-seat.invariant.for_hands

pub unreachable-requires : goal.unreachable-requires
unreachable-requires g c = let P = IsNewHand (arc_value c.args.board.now) in let i = c.loop-seat.invariant in
    let t = seat_and_rest P i.left c.in-Some.seat c.next.new.self.rest.items (subst (SeatForEach P i.left) c.in-Some.ensures.steps.0 i.seats) in c.in_default.not-Hand t.0 (c.role.ensures ∙ t.3.who)

pub open_hand-requires-after_bounds : goal.open_hand-requires-after_bounds
open_hand-requires-after_bounds g c κs within = let P = IsNewHand (arc_value c.args.board.now) in let i = c.loop-seat.invariant in
    let t = seat_and_rest P i.left c.in-Some.seat c.next.new.self.rest.items (subst (SeatForEach P i.left) c.in-Some.ensures.steps.0 i.seats) in
    let same : t.0 ≡ c.in-Hand.cpu = ap cpu_of_role (sym t.3.who ∙ sym c.role.ensures ∙ c.in-Hand.is) in
    let start = c.before.before.before.before.before.before.before.before.before.before in
    let drawn = λ (f : Front (Parcel g.row.J.Denot) LaneLimits). items_drawn f ≡ [] in (
      group_member_fits g start,
      (
        hand_fits g start,
        (
          subst (λ (k : ℕ). P k c.in-Some.seat) same t.3,
          All-head drawn c.in-Some-pop_front.front c.pop_front.new.self.items (subst (All drawn) c.in-Some-pop_front.ensures.items i.drawn),
        ),
      ),
    )

-- the seat's number, and those that are left then
taken : (g : Over) (c : After-push_reserved g) → let b = arc_value c.args.board.now in (k : ℕ) × (js : List ℕ) × (c.loop-seat.invariant.left ≡ k ∷ js) × IsNewHand b k c.in-Some.seat × SeatForEach (IsNewHand b) js c.next.new.self.rest.items
taken g c = let P = IsNewHand (arc_value c.args.board.now) in let i = c.loop-seat.invariant in
    seat_and_rest P i.left c.in-Some.seat c.next.new.self.rest.items (subst (SeatForEach P i.left) c.in-Some.ensures.steps.0 i.seats)

pub loop-seat-preserved : goal.loop-seat-preserved
loop-seat-preserved g c = let b = arc_value c.args.board.now in let i = c.loop-seat.invariant in let ks = numbers_where (is_offloadable b.offloadable) 0 b.processors in
    let t = taken g c in
    let same : c.in-Hand.cpu ≡ t.0 = ap cpu_of_role (sym c.in-Hand.is ∙ c.role.ensures ∙ t.3.who) in
    let drawn = λ (f : Front (Parcel g.row.J.Denot) LaneLimits). items_drawn f ≡ [] in
    let cut = c.in-Some-pop_front.ensures.items in let group_member = c.in_ok-group_member.group_member in let e = c.push_back_reserved.ensures.items in let made = c.in_ok-group_member.ensures in
    let m = made_more ks c.args.fronts.items t.0 c.in-Hand.cpu i.left t.1 c.in-Some-pop_front.front c.loop-seat.fronts.items c.pop_front.new.self.items group_member c.loop-seat.group_members.items c.push_back_reserved.new.self.items i.all i.fronts t.2 cut made.group_member.0 same made.group_member.1 e in
    let h = hands_more c.args.shape.now c.args.kept b c.in-Hand.cpu group_member c.loop-seat.group_members.items c.push_back_reserved.new.self.items c.in_ok-group_member.hand c.loop-seat.hands.items c.push_reserved.new.self.items i.hands i.lanes made.group_member.0 made.hand made.lane e c.push_reserved.ensures.items in record {
      left = t.1;
      all = m.cpus;
      seats = t.4;
      many = let x = ap (λ (l : List (Front (Parcel g.row.J.Denot) LaneLimits)). length l) cut in let y = ap (λ (l : List Seat). length l) c.in-Some.ensures.steps.0 in let z = i.many in omega (arith, x, y, z);
      drawn = All-tail drawn c.in-Some-pop_front.front c.pop_front.new.self.items (subst (All drawn) cut i.drawn);
      fronts = m.fronts_are;
      empty = subst (All IsEmptyGroupMember) (sym e) (All-push IsEmptyGroupMember c.loop-seat.group_members.items group_member i.empty made.group_member.2);
      hands = h.0;
      lanes = h.1;
      for_members = room_kept _ _ _ _ _ _ _ c.in-Some.ensures.steps.0 i.for_members c.push_back_reserved.ensures.len c.push_back_reserved.ensures.capacity;
      for_hands = room_kept _ _ _ _ _ _ _ c.in-Some.ensures.steps.0 i.for_hands c.push_reserved.ensures.len c.push_reserved.ensures.capacity;
    }

over : (g : Over) (c : goal.After-drop-fronts-2 g) → length c.loop-seat.seat-iterator.rest.items ≡ 0
over g c = sym c.loop-seat.seat-iterator.rest.ok.0 ∙ c.in-None.ensures.steps.0

cpus : (g : Over) (c : goal.After-drop-fronts-2 g) → cpus_of c.loop-seat.group_members.items ≡ numbers_where (is_offloadable (arc_value c.args.board.now).offloadable) 0 (arc_value c.args.board.now).processors
cpus g c = let i = c.loop-seat.invariant in all_of (cpus_of c.loop-seat.group_members.items) i.left (numbers_where (is_offloadable (arc_value c.args.board.now).offloadable) 0 (arc_value c.args.board.now).processors) i.all
    (seats_over (IsNewHand (arc_value c.args.board.now)) i.left c.loop-seat.seat-iterator.rest.items i.seats (over g c))

pub returns-clause-cpus : goal.returns-clause-cpus
returns-clause-cpus g c = cpus g c

pub returns-clause-fronts : goal.returns-clause-fronts
returns-clause-fronts g c = let i = c.loop-seat.invariant in all_of (fronts_of c.loop-seat.group_members.items) c.loop-seat.fronts.items c.args.fronts.items i.fronts (nil_from_length c.loop-seat.fronts.items (i.many ∙ over g c))

pub returns-clause-hands : goal.returns-clause-hands
returns-clause-hands g c = subst (λ (ks : List ℕ). AllZip (IsFirstHand c.args.shape.now c.args.kept (arc_value c.args.board.now)) ks c.loop-seat.hands.items) (cpus g c) c.loop-seat.invariant.hands

pub returns-in_err-group_members : goal.returns-in_err-group_members
returns-in_err-group_members g c = let e = c.from_residual.ensures in record { cpus = if_ok_never _ _ e; fronts = if_ok_never _ _ e; empty = if_ok_never _ _ e; hands = if_ok_never _ _ e; lanes = if_ok_never _ _ e }

pub returns-in_err-hands : goal.returns-in_err-hands
returns-in_err-hands g c = let e = c.from_residual-in_err-hands.ensures in record { cpus = if_ok_never _ _ e; fronts = if_ok_never _ _ e; empty = if_ok_never _ _ e; hands = if_ok_never _ _ e; lanes = if_ok_never _ _ e }

pub returns-in_err-group_member : goal.returns-in_err-group_member
returns-in_err-group_member g c = let e = c.from_residual-in_err-group_member.ensures in record { cpus = if_ok_never _ _ e; fronts = if_ok_never _ _ e; empty = if_ok_never _ _ e; hands = if_ok_never _ _ e; lanes = if_ok_never _ _ e }

pub unreachable-unreachable : goal.unreachable-unreachable
unreachable-unreachable g c = c.unreachable.result

pub unreachable-requires-in_default-pop_front : goal.unreachable-requires-in_default-pop_front
unreachable-requires-in_default-pop_front g c = let t = c.in_default-pop_front.ensures in never_popped _ _ _ t.items t.rest (c.loop-seat.invariant.many ∙ ap (λ (l : List Seat). length l) c.in-Some.ensures.steps.0)

pub unreachable-unreachable-in_default-pop_front : goal.unreachable-unreachable-in_default-pop_front
unreachable-unreachable-in_default-pop_front g c = c.unreachable-in_default-pop_front.result

pub open_hand-requires-send-J : goal.open_hand-requires-send-J
open_hand-requires-send-J g c κs within = c.type_bounds.send-J

pub open_hand-requires-send-J-Receipt : goal.open_hand-requires-send-J-Receipt
open_hand-requires-send-J-Receipt g c κs within = c.type_bounds.send-J-Receipt

pub drop-group_members-requires-room-T-Destruct : goal.drop-group_members-requires-room-T-Destruct
drop-group_members-requires-room-T-Destruct g c κs within = assumption

pub drop-hands-requires-room-T-Destruct : goal.drop-hands-requires-room-T-Destruct
drop-hands-requires-room-T-Destruct g c κs within = assumption

pub drop-group_members-requires-in_err-group_member-room-T-Destruct : goal.drop-group_members-requires-in_err-group_member-room-T-Destruct
drop-group_members-requires-in_err-group_member-room-T-Destruct g c κs within = assumption

pub returns-clause-empty : goal.returns-clause-empty
returns-clause-empty g c = c.loop-seat.invariant.empty

pub returns-clause-lanes : goal.returns-clause-lanes
returns-clause-lanes g c = c.loop-seat.invariant.lanes
