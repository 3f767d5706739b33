use Rattle.std.proofs.Common.{◌≡◌, ℕ, arith, List, ◌∷◌, [], ◌++◌, length, append_assoc, ap, sym, ◌∙◌, subst, refl}
use Rattle.std.specs.Arc.{arc_value}
use Rattle.std.specs.List.{AllZip}
use Rattle.std.specs.Mem.{FitsInMemory}
use denote.Param.{param}
use Rattle.std.proofs.lemmas.List.{length-map, nil_from_length}
use Rattle.rcu_board.specs.Opened.{IsNewGroup, SeatForEach, has_offloadable, numbers_where}
use Rattle.rcu_board.specs.declared.board.Board.{Board}
use Rattle.rcu_part_lists.proofs.Sizes.{in_struct}
use Rattle.rcu_part_group.specs.GroupLaw.{cpus_of, group_members_in}
use Rattle.rcu_parts.specs.OneOpen.{members_in}
use Rattle.rcu_parts.specs.Openings.{IsFirstGroup, is_member}
use Rattle.rcu_part_group.specs.contracts.members.GroupMember as group_member
use Rattle.rcu_part_group.specs.contracts.members.GroupMembers as members
use Rattle.rcu_part_group.specs.contracts.group.Group as group
use Rattle.rcu_part_group.specs.declared.members.GroupMember.{GroupMember}
use Rattle.rcu_part_group.specs.declared.group.Group.{Group}
use Rattle.rcu_parts.proofs.Grouped.{are_members, group_begins, group_taken}
use Rattle.rcu_parts.proofs.Making.{empty_parts, group_made, group_of_role, grouped_more, groups_more}
use Rattle.rcu_parts.proofs.Splitting.{AreGrouped, all_groups}
use Rattle.rcu_parts.proofs.Zips.{seat_and_rest, seats_over}
use Rattle.rcu_parts.proofs.opening.open_groups.Given.{Over}
use Rattle.rcu_lists.proofs.Outcomes.{if_ok_never}
use Rattle.rcu_parts.proofs.Passing.{room_begun, room_kept, room_now}
use Rattle.rcu_parts.proofs.opening.open_groups.Goals.{After-push_reserved}
use Rattle.rcu_parts.proofs.opening.open_groups.Goals as goal
use Rattle.rcu_lemmas.proofs.Zips.{all_of}

group_fits : (g : Over) (c : goal.After-into_iter-seat-iterator g) → FitsInMemory (group.the_row (param 0 g.row.J) (param 1 g.row.J-Receipt))
group_fits g c = assumption

group_member_fits : (g : Over) (c : goal.After-into_iter-seat-iterator g) → FitsInMemory (group_member.the_row (param 0 g.row.J))
group_member_fits g c = assumption

members_fits : (g : Over) (c : goal.After-into_iter-seat-iterator g) → FitsInMemory (members.the_row (param 0 g.row.J))
members_fits g c = let h = group_fits g c in in_struct _ _ _ (in_struct _ _ _ h)

pub loop-seat-init : goal.loop-seat-init
loop-seat-init g c = let b = arc_value c.args.board.now in let stride = c.args.shape.now.stride in let gs = numbers_where (has_offloadable b.offloadable stride b.processors) 0 b.processors in let e = c.into_iter-seat-iterator.ensures.into_iter_gives.0 in record {
  done = [];
  left = gs;
  all = refl;
  seats = subst (SeatForEach (IsNewGroup b) gs) (sym e) c.requires.seats;
  grouped = subst (AreGrouped b.offloadable stride b.processors gs) (sym c.requires.cpus) (all_groups b.offloadable stride b.processors (let w = c.args.shape.now.within.group in omega (arith, w)));
  members = ap (λ (l : List (Group g.row.J.Denot g.row.J-Receipt.Denot)). members_in l ++ c.args.group_members.items) c.in_ok-groups.ensures.items;
  empty = c.requires.empty;
  groups = subst (λ (l : List (Group g.row.J.Denot g.row.J-Receipt.Denot)). AllZip (IsFirstGroup c.args.shape.now b) [] l) (sym c.in_ok-groups.ensures.items) tt;
  room = room_begun _ _ _ _ _ _ e c.len.ensures c.args.seats.ok.0 c.in_ok-groups.ensures.len c.in_ok-groups.ensures.capacity;
}

pub push_reserved-requires : goal.push_reserved-requires
push_reserved-requires g c = room_now _ _ _ _ _ c.in-Some.ensures.steps.0 c.loop-seat.invariant.room

pub unreachable-requires : goal.unreachable-requires
unreachable-requires g c = let P = IsNewGroup (arc_value c.args.board.now) in let i = c.loop-seat.invariant in
    let t = seat_and_rest P i.left c.in-Some.seat c.next.new.self.rest.items (subst (SeatForEach P i.left) c.in-Some.ensures.steps.0 i.seats) in c.in_default.not-Group t.0 (c.role.ensures ∙ t.3.who)

pub take_members-requires : goal.take_members-requires
take_members-requires g c = let b = arc_value c.args.board.now in let P = IsNewGroup b in let i = c.loop-seat.invariant in
    let t = seat_and_rest P i.left c.in-Some.seat c.next.new.self.rest.items (subst (SeatForEach P i.left) c.in-Some.ensures.steps.0 i.seats) in
    let same : t.0 ≡ c.in-Group.number = ap group_of_role (sym t.3.who ∙ sym c.role.ensures ∙ c.in-Group.is) in
    let grouped = subst (λ (l : List ℕ). AreGrouped b.offloadable c.args.shape.now.stride b.processors l (cpus_of c.loop-seat.group_members.items)) (t.2 ∙ ap (λ (k : ℕ). k ∷ t.1) same) i.grouped in
    let begins = group_begins b.offloadable c.args.shape.now.stride b.processors c.in-Group.number t.1 c.loop-seat.group_members.items grouped in
    let start = c.before.before.before.before.before.before.before.before.before.before.before in
    (group_member_fits g start, (members_fits g start, ((let w = c.args.shape.now.within.group in omega (arith, w)), begins)))

pub new-requires-after_bounds : goal.new-requires-after_bounds
new-requires-after_bounds g c κs within = let b = arc_value c.args.board.now in let P = IsNewGroup b in let i = c.loop-seat.invariant in let stride = c.args.shape.now.stride in let number = c.in-Group.number in
    let t = seat_and_rest P i.left c.in-Some.seat c.next.new.self.rest.items (subst (SeatForEach P i.left) c.in-Some.ensures.steps.0 i.seats) in
    let same : t.0 ≡ number = ap group_of_role (sym t.3.who ∙ sym c.role.ensures ∙ c.in-Group.is) in
    let grouped = subst (λ (l : List ℕ). AreGrouped b.offloadable stride b.processors l (cpus_of c.loop-seat.group_members.items)) (t.2 ∙ ap (λ (k : ℕ). k ∷ t.1) same) i.grouped in
    let took = c.in_ok-members.ensures in let ms = group_members_in c.in_ok-members.members in let rest = c.take_members.new.group_members.items in
    let of = group_taken b.offloadable stride b.processors number t.1 ms c.loop-seat.group_members.items rest grouped took in
    let start = c.before.before.before.before.before.before.before.before.before.before.before.before.before.before.before in (
      members_fits g start,
      (
        group_fits g start,
        (
          subst (λ (x : Board). IsNewGroup x number c.in-Some.seat) (sym c.in_ok-own.ensures) (subst (λ (k : ℕ). P k c.in-Some.seat) same t.3),
          (are_members b.offloadable stride b.processors number ms b.few of.0, (empty_parts ms c.loop-seat.group_members.items rest took.order i.empty).0),
        ),
      ),
    )

-- the seat's number is the group's, and those of the groups that are left then
taken : (g : Over) (c : After-push_reserved g) → let b = arc_value c.args.board.now in let k = c.in-Group.number in
    (js : List ℕ) × (c.loop-seat.invariant.left ≡ k ∷ js) × IsNewGroup b k c.in-Some.seat × SeatForEach (IsNewGroup b) js c.next.new.self.rest.items
taken g c = let P = IsNewGroup (arc_value c.args.board.now) in let i = c.loop-seat.invariant in
    let t = seat_and_rest P i.left c.in-Some.seat c.next.new.self.rest.items (subst (SeatForEach P i.left) c.in-Some.ensures.steps.0 i.seats) in
    let same : t.0 ≡ c.in-Group.number = ap group_of_role (sym t.3.who ∙ sym c.role.ensures ∙ c.in-Group.is) in
    (t.1, t.2 ∙ ap (λ (k : ℕ). k ∷ t.1) same, subst (λ (k : ℕ). P k c.in-Some.seat) same t.3, t.4)

-- what is taken are the group's members, and the other groups are left
members_taken : (g : Over) (c : After-push_reserved g) → let b = arc_value c.args.board.now in let stride = c.args.shape.now.stride in
    (cpus_of (group_members_in c.in_ok-members.members) ≡ numbers_where (is_member b.offloadable stride c.in-Group.number) 0 b.processors)
    × AreGrouped b.offloadable stride b.processors (taken g c).0 (cpus_of c.take_members.new.group_members.items)
members_taken g c = let b = arc_value c.args.board.now in let stride = c.args.shape.now.stride in let all = c.loop-seat.group_members.items in
    let grouped = subst (λ (l : List ℕ). AreGrouped b.offloadable stride b.processors l (cpus_of all)) (taken g c).1 c.loop-seat.invariant.grouped in
    group_taken b.offloadable stride b.processors c.in-Group.number (taken g c).0 (group_members_in c.in_ok-members.members) all c.take_members.new.group_members.items grouped c.in_ok-members.ensures

pub loop-seat-preserved : goal.loop-seat-preserved
loop-seat-preserved g c = let b = arc_value c.args.board.now in let i = c.loop-seat.invariant in let number = c.in-Group.number in
    let t = taken g c in let of = members_taken g c in let made = c.new.ensures in
    let took = c.in_ok-members.ensures in let ms = group_members_in c.in_ok-members.members in let rest = c.take_members.new.group_members.items in
    let empty = empty_parts ms c.loop-seat.group_members.items rest took.order i.empty in
    let first = group_made c.args.shape.now (arc_value c.in_ok-own.own) b number c.in-Some.seat ms c.new.result c.in_ok-own.ensures t.2 of.0 empty.0 made in
    let e = c.push_reserved.ensures.items in record {
      done = i.done ++ number ∷ [];
      left = t.0;
      all = append_assoc i.done (number ∷ []) t.0 ∙ ap (λ (l : List ℕ). i.done ++ l) (sym t.1) ∙ i.all;
      seats = t.3;
      grouped = of.1;
      members = grouped_more c.loop-seat.groups.items c.push_reserved.new.self.items c.new.result ms c.loop-seat.group_members.items rest c.args.group_members.items i.members took.order made.members_are e;
      empty = empty.1;
      groups = groups_more c.args.shape.now b i.done number c.loop-seat.groups.items c.push_reserved.new.self.items c.new.result i.groups first e;
      room = room_kept _ _ _ _ _ _ _ c.in-Some.ensures.steps.0 i.room c.push_reserved.ensures.len c.push_reserved.ensures.capacity;
    }

over : (g : Over) (c : goal.After-drop-group_members-2 g) → length c.loop-seat.seat-iterator.rest.items ≡ 0
over g c = sym c.loop-seat.seat-iterator.rest.ok.0 ∙ c.in-None.ensures.steps.0

none : (g : Over) (c : goal.After-drop-group_members-2 g) → c.loop-seat.invariant.left ≡ []
none g c = seats_over (IsNewGroup (arc_value c.args.board.now)) c.loop-seat.invariant.left c.loop-seat.seat-iterator.rest.items c.loop-seat.invariant.seats (over g c)

pub returns-clause-groups : goal.returns-clause-groups
returns-clause-groups g c = let i = c.loop-seat.invariant in let b = arc_value c.args.board.now in
    subst (λ (gs : List ℕ). AllZip (IsFirstGroup c.args.shape.now b) gs c.loop-seat.groups.items) (all_of i.done i.left (numbers_where (has_offloadable b.offloadable c.args.shape.now.stride b.processors) 0 b.processors) i.all (none g c)) i.groups

pub returns-clause-members : goal.returns-clause-members
returns-clause-members g c = let i = c.loop-seat.invariant in let b = arc_value c.args.board.now in
    let left = subst (λ (gs : List ℕ). AreGrouped b.offloadable c.args.shape.now.stride b.processors gs (cpus_of c.loop-seat.group_members.items)) (none g c) i.grouped in
    all_of (members_in c.loop-seat.groups.items) c.loop-seat.group_members.items c.args.group_members.items i.members
    (nil_from_length c.loop-seat.group_members.items (sym (length-map c.loop-seat.group_members.items (λ (m : GroupMember g.row.J.Denot). m.cpu)) ∙ ap (λ (l : List ℕ). length l) left))

pub returns-in_err-groups : goal.returns-in_err-groups
returns-in_err-groups g c = let e = c.from_residual.ensures in record { groups = if_ok_never _ _ e; members = if_ok_never _ _ e }

pub returns-in_err-own : goal.returns-in_err-own
returns-in_err-own g c = let e = c.from_residual-in_err-own.ensures in record { groups = if_ok_never _ _ e; members = if_ok_never _ _ e }

pub returns-in_err-members : goal.returns-in_err-members
returns-in_err-members g c = let e = c.from_residual-in_err-members.ensures in record { groups = if_ok_never _ _ e; members = if_ok_never _ _ e }

pub unreachable-unreachable : goal.unreachable-unreachable
unreachable-unreachable g c = c.unreachable.result

pub drop-groups-requires-room-T-Destruct : goal.drop-groups-requires-room-T-Destruct
drop-groups-requires-room-T-Destruct g c κs within = assumption

pub drop-group_members-requires-room-T-Destruct : goal.drop-group_members-requires-room-T-Destruct
drop-group_members-requires-room-T-Destruct g c κs within = assumption

pub drop-groups-requires-in_err-members-room-T-Destruct : goal.drop-groups-requires-in_err-members-room-T-Destruct
drop-groups-requires-in_err-members-room-T-Destruct g c κs within = assumption

pub drop-group_members-requires-in_err-members-room-T-Destruct : goal.drop-group_members-requires-in_err-members-room-T-Destruct
drop-group_members-requires-in_err-members-room-T-Destruct g c κs within = assumption

pub new-requires-send-J : goal.new-requires-send-J
new-requires-send-J g c κs within = c.type_bounds.send-J

pub new-requires-send-J-Receipt : goal.new-requires-send-J-Receipt
new-requires-send-J-Receipt g c κs within = c.type_bounds.send-J-Receipt

pub drop-group_members-requires-in_err-own-room-T-Destruct : goal.drop-group_members-requires-in_err-own-room-T-Destruct
drop-group_members-requires-in_err-own-room-T-Destruct g c κs within = assumption

pub drop-group_members-requires-2-room-T-Destruct : goal.drop-group_members-requires-2-room-T-Destruct
drop-group_members-requires-2-room-T-Destruct g c κs within = assumption
