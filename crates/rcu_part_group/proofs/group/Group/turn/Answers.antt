use Rattle.std.proofs.Common.{◌∙◌, ap, refl, subst, sym, arith}
use Rattle.std.specs.Arc.{arc_value}
use Rattle.std.specs.Mem.{FitsInMemory}
use Rattle.std.proofs.lemmas.List.Elements.{length_all_zip}
use denote.Param.{param}
use Rattle.rcu_board.proofs.Facts.{same_seat, same_seat_again, steps-touched, words-at}
use Rattle.rcu_board.specs.Roles.{MayNeed}
use Rattle.rcu_board.specs.Seats.{view, AtBoard}
use Rattle.rcu_board.specs.Views.{tally}
use Rattle.rcu_board.specs.Words.{board_word}
use Rattle.rcu_board.specs.declared.board.Board.{Board}
use Rattle.rcu_board.specs.declared.view.View.{View}
use Rattle.rcu_part_lists.proofs.Sizes.{in_struct}
use Rattle.rcu_part_group.specs.GroupLaw.{group_members_in}
use Rattle.rcu_part_group.specs.Groups.{AsksFor, SameGroup, SameGroupMember, members_of}
use Rattle.rcu_part_group.specs.contracts.group.Group as row
use Rattle.rcu_part_group.specs.declared.group.GroupState.{GroupState}
use Rattle.rcu_part_group.proofs.GroupTurns.{gives_places, gives_same, lawful_asks, lawful_gives, lawful_takes, looks_places, looks_same, places_again, same_group_members_again, sums_within, takes_places, takes_same, within_same}
use Rattle.rcu_part_group.proofs.group.Group.turn.Goals as goal

pub take_in-took-requires : goal.take_in-took-requires
take_in-took-requires g c = let h : FitsInMemory (row.the_row (param 0 g.row.J) (param 1 g.row.J-Receipt)) = assumption in
    (in_struct _ _ _ (in_struct _ _ _ h), c.args.self.now.state.lawful.members_are.few)

pub look_at_number-seen-requires : goal.look_at_number-seen-requires
look_at_number-seen-requires g c = let s = c.args.self.now.state in record { board = subst (λ (b : Board). AtBoard b s.seat) (sym c.deref.ensures) s.here }

pub look-most-requires : goal.look-most-requires
look-most-requires g c =
    let h : FitsInMemory (row.the_row (param 0 g.row.J) (param 1 g.row.J-Receipt)) = assumption in
    let s = c.args.self.now.state in let e = c.look_at_number-seen.ensures in let later = (e.same.later (arc_value s.board) s.here).board in
    let law = lawful_takes (view s.seat) s.blimit c.take_in-took.result (members_of s) (group_members_in c.take_in-took.new.self) c.take_in-took.ensures s.lawful in
    (in_struct _ _ _ (in_struct _ _ _ h), ((λ k d low. let before = law.looked k d low in omega (arith, before, later, e.sight.0)), e.sight.1))

pub want-requires-clause-board : goal.want-requires-clause-board
want-requires-clause-board g c = let s = c.args.self.now.state in subst (λ (b : Board). AtBoard b c.look_at_number-seen.new.seat) (sym c.deref-2.ensures) (c.look_at_number-seen.ensures.same.table ∙ s.here)

pub want-requires-clause-who : goal.want-requires-clause-who
want-requires-clause-who g c = subst MayNeed (sym (c.look_at_number-seen.ensures.same.role ∙ c.args.self.now.state.role)) tt

pub give-gave-requires : goal.give-gave-requires
give-gave-requires g c =
    let h : FitsInMemory (row.the_row (param 0 g.row.J) (param 1 g.row.J-Receipt)) = assumption in
    let s = c.args.self.now.state in let a = c.look_at_number-seen.ensures in let b = c.want.ensures in
    let first = lawful_takes (view s.seat) s.blimit c.take_in-took.result (members_of s) (group_members_in c.take_in-took.new.self) c.take_in-took.ensures s.lawful in
    let second = lawful_asks (arc_value s.board) s.seat c.look_at_number-seen.new.seat c.want.new.seat c.look_at_number-seen.result s.blimit c.look-most.result (group_members_in c.take_in-took.new.self) (group_members_in c.look-most.new.self)
    s.here a.same a.view a.sight.0 b.same b.lists b.sight b.needed c.look-most.ensures first in
    (in_struct _ _ _ (in_struct _ _ _ h), (second.members_are.few, second.loaded))

pub invariant_of-state : goal.invariant_of-state
invariant_of-state g c =
    let s = c.args.self.now.state in let a = c.look_at_number-seen.ensures in let b = c.want.ensures in
    let first = lawful_takes (view s.seat) s.blimit c.take_in-took.result (members_of s) (group_members_in c.take_in-took.new.self) c.take_in-took.ensures s.lawful in
    let second = lawful_asks (arc_value s.board) s.seat c.look_at_number-seen.new.seat c.want.new.seat c.look_at_number-seen.result s.blimit c.look-most.result (group_members_in c.take_in-took.new.self) (group_members_in c.look-most.new.self)
    s.here a.same a.view a.sight.0 b.same b.lists b.sight b.needed c.look-most.ensures first in record {
      here = b.same.table ∙ (a.same.table ∙ s.here);
      role = b.same.role ∙ (a.same.role ∙ s.role);
      lawful = lawful_gives (view c.want.new.seat) s.blimit c.give-gave.result (group_members_in c.look-most.new.self) (group_members_in c.give-gave.new.self) c.give-gave.ensures second;
    }

pub waiting-held-requires : goal.waiting-held-requires
waiting-held-requires g c =
    let h : FitsInMemory (row.the_row (param 0 g.row.J) (param 1 g.row.J-Receipt)) = assumption in
    let p = c.args.self.now.state in let os = members_of p in let ms = group_members_in c.take_in-took.new.self in let ns = group_members_in c.look-most.new.self in let qs = group_members_in c.give-gave.new.self in
    let few = p.lawful.members_are.few in
    let drawn = length_all_zip SameGroupMember os ms (takes_same c.take_in-took.result os ms c.take_in-took.ensures) in
    let asked = length_all_zip SameGroupMember ms ns (looks_same c.look_at_number-seen.result c.look-most.result ms ns c.look-most.ensures) in
    let given = length_all_zip SameGroupMember ns qs (gives_same p.blimit c.give-gave.result ns qs c.give-gave.ensures) in
    (in_struct _ _ _ (in_struct _ _ _ h), omega (arith, few, drawn, asked, given))

pub returns : goal.returns
returns g c =
    let p = c.args.self.now.state in let a = c.look_at_number-seen.ensures in let b = c.want.ensures in
    let took = c.take_in-took.result in let seen = c.look_at_number-seen.result in let most = c.look-most.result in let gave = c.give-gave.result in
    let os = members_of p in let ms = group_members_in c.take_in-took.new.self in let ns = group_members_in c.look-most.new.self in let qs = group_members_in c.give-gave.new.self in
    let drawn_law = lawful_takes (view p.seat) p.blimit took os ms c.take_in-took.ensures p.lawful in
    let asked_law = lawful_asks (arc_value p.board) p.seat c.look_at_number-seen.new.seat c.want.new.seat seen p.blimit most ms ns p.here a.same a.view a.sight.0 b.same b.lists b.sight b.needed c.look-most.ensures drawn_law in
    let first : GroupState g.row.J.Denot = record p { members = c.take_in-took.new.self; lawful = drawn_law } in
    let second : GroupState g.row.J.Denot = record p { seat = c.want.new.seat; members = c.look-most.new.self; here = b.same.table ∙ (a.same.table ∙ p.here); role = b.same.role ∙ (a.same.role ∙ p.role); lawful = asked_law } in
    let drawn : SameGroup p first = record { part = record { board = refl; seat = same_seat p.seat }; group = refl; blimit = refl; members = takes_same took os ms c.take_in-took.ensures } in
    let asked : SameGroup p second = record {
      part = record { board = refl; seat = same_seat_again _ _ _ a.same b.same };
      group = refl;
      blimit = refl;
      members = same_group_members_again os ms ns drawn.members (looks_same seen most ms ns c.look-most.ensures);
    } in record {
      same = record {
        part = asked.part;
        group = refl;
        blimit = refl;
        members = same_group_members_again os ns qs asked.members (gives_same p.blimit gave ns qs c.give-gave.ensures);
      };
      turn = record {
        first = first;
        second = second;
        same = (drawn, asked);
        takes = record { members = c.take_in-took.ensures; view_is = refl };
        looks = record { seen = seen; most = most; members = c.look-most.ensures; steps = subst (λ (v : View). AsksFor most v (view c.want.new.seat)) a.view b.asks };
        gives = record { members = c.give-gave.ensures; view_is = refl };
        held = c.waiting-held.ensures;
      };
      few = within_same gave p second asked (sums_within p.blimit gave ns qs c.give-gave.ensures);
      places = places_again os ns qs (places_again os ms ns (takes_places took os ms c.take_in-took.ensures) (looks_places seen most ms ns c.look-most.ensures)) (gives_places p.blimit gave ns qs c.give-gave.ensures);
      needed = (lawful_gives (view c.want.new.seat) p.blimit gave ns qs c.give-gave.ensures asked_law).needed;
      fresh = b.fresh ∙ (ap (λ (v : View). tally v board_word) a.view ∙ steps-touched p.seat 0 seen (omega (arith, words-at (arc_value p.board) p.seat p.here)));
    }
