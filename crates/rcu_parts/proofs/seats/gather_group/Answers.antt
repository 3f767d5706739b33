use Rattle.std.proofs.Common.{◌≡◌, ◌≤◌, ◌∙◌, ap, length, List, [], sym, subst, vec_capacity}
use Rattle.std.specs.Global.{Vec}
use Rattle.std.specs.Mem.{FitsInMemory}
use denote.Param.{param}
use Rattle.rcu_part_lists.proofs.Sizes.{in_struct}
use Rattle.rcu_parts.proofs.Passing.{all_long, never_full, put_behind, room_first}
use Rattle.rcu_part_group.specs.contracts.group.Group as row
use Rattle.rcu_part_group.specs.declared.members.GroupMember.{GroupMember}
use Rattle.rcu_part_group.specs.declared.members.GroupMembers.{GroupMembers}
use Rattle.rcu_parts.proofs.seats.gather_group.Given.{Over}
use Rattle.rcu_parts.proofs.seats.gather_group.Goals.{After-append, Start}
use Rattle.rcu_board.specs.Seats.{AtBoard, gathered_view, view}
use Rattle.rcu_board.specs.Views.{joined}
use Rattle.rcu_parts.proofs.Resting.{still_rests}
use Rattle.rcu_board.specs.declared.board.Board.{Board}
use Rattle.rcu_board.specs.declared.board.Seat.{Seat}
use Rattle.rcu_parts.proofs.seats.gather_group.Goals as goal

group_fits : (g : Over) (c : Start g) → FitsInMemory (row.the_row (param 0 g.row.J) (param 1 g.row.J-Receipt))
group_fits g c = assumption

pub into_parts-seat-requires-after_bounds : goal.into_parts-seat-requires-after_bounds
into_parts-seat-requires-after_bounds g c κs within = (group_fits g c, in_struct _ _ _ (in_struct _ _ _ (group_fits g c)))

pub into_parts-first-requires : goal.into_parts-first-requires
into_parts-first-requires g c = (in_struct _ _ _ (in_struct _ _ _ (group_fits g c.before)), in_struct _ _ _ (in_struct _ _ _ (in_struct _ _ _ (group_fits g c.before))))

-- the others are those of the group
others : (g : Over) (c : After-append g) → c.into_parts-first.result.1.items ≡ c.args.group.state.members.others.items
others g c = ap (λ (v : Vec (GroupMember g.row.J.Denot)). v.items) (c.into_parts-first.ensures.1 ∙ ap (λ (x : GroupMembers g.row.J.Denot). x.others) c.into_parts-seat.ensures.1)

pub unreachable-requires : goal.unreachable-requires
unreachable-requires g c = let p = c.push_reserved.ensures in never_full _ _ _ _ _ _ _ p.len p.capacity c.into_parts-first.result.1.ok.0 (ap (λ (l : List (GroupMember g.row.J.Denot)). length l) (others g c.before)) c.requires.room c.in_default.ensures.full

pub unreachable-unreachable : goal.unreachable-unreachable
unreachable-unreachable g c = c.unreachable.result

pub returns-clause-members : goal.returns-clause-members
returns-clause-members g c = put_behind _ _ _ _ _ _ _ c.push_reserved.ensures.items c.in-Ok.ensures.items (c.into_parts-first.ensures.0 ∙ ap (λ (x : GroupMembers g.row.J.Denot). x.first) c.into_parts-seat.ensures.1) (others g c.before.before)

pub returns-clause-len : goal.returns-clause-len
returns-clause-len g c = all_long _ _ _ _ _ _ c.push_reserved.ensures.len c.in-Ok.ensures.len c.into_parts-first.result.1.ok.0 (ap (λ (l : List (GroupMember g.row.J.Denot)). length l) (others g c.before.before))

pub returns-clause-room : goal.returns-clause-room
returns-clause-room g c = subst (λ n. n ≤ vec_capacity c.append.new.self) c.push_reserved.ensures.capacity c.append.ensures.capacity

pub returns-clause-same : goal.returns-clause-same
returns-clause-same g c = c.merge.ensures.same

pub merge-requires-clause-all : goal.merge-requires-clause-all
merge-requires-clause-all g c = c.requires.all

pub merge-requires-clause-rests : goal.merge-requires-clause-rests
merge-requires-clause-rests g c = c.requires.rests

pub merge-requires-clause-board : goal.merge-requires-clause-board
merge-requires-clause-board g c = let s = c.args.group.state in subst (λ (t : Seat). AtBoard c.args.board.now t) (sym c.into_parts-seat.ensures.0) (subst (λ (b : Board). AtBoard b s.seat) c.requires.board s.here)

pub merge-requires-clause-joins : goal.merge-requires-clause-joins
merge-requires-clause-joins g c = subst (λ (t : Seat). (view t).running ≡ []) (sym c.into_parts-seat.ensures.0) c.args.group.state.lawful.bare.running

pub returns-clause-view : goal.returns-clause-view
returns-clause-view g c = c.merge.ensures.view ∙ ap (λ (s : Seat). joined (gathered_view c.args.all.now) (view s)) c.into_parts-seat.ensures.0

pub returns-clause-rests : goal.returns-clause-rests
returns-clause-rests g c = still_rests (gathered_view c.args.all.now) (view c.into_parts-seat.result.0) (gathered_view c.merge.new.all) c.merge.ensures.view c.requires.rests (subst (λ (t : Seat). (view t).running ≡ []) (sym c.into_parts-seat.ensures.0) c.args.group.state.lawful.bare.running)

pub into_parts-seat-requires-send-J : goal.into_parts-seat-requires-send-J
into_parts-seat-requires-send-J g c κs within = c.type_bounds.send-J

pub into_parts-seat-requires-send-J-Receipt : goal.into_parts-seat-requires-send-J-Receipt
into_parts-seat-requires-send-J-Receipt g c κs within = c.type_bounds.send-J-Receipt

pub push_reserved-requires : goal.push_reserved-requires
push_reserved-requires g c = room_first _ _ _ c.requires.room

pub drop-others-requires-room-T-Destruct : goal.drop-others-requires-room-T-Destruct
drop-others-requires-room-T-Destruct g c κs within = let h : FitsInMemory (row.the_row (param 0 g.row.J) (param 1 g.row.J-Receipt)) = assumption in in_struct _ _ _ (in_struct _ _ _ (in_struct _ _ _ h))
