use Rattle.std.proofs.Common.{◌≡◌, ◌∙◌, [], ◌++◌, sym, ap, subst, refl, arith}
use Rattle.std.specs.List.{All}
use Rattle.std.specs.Mem.{FitsInMemory}
use denote.Param.{param}
use Rattle.rcu_board.specs.Seats.{gathered_view, view}
use Rattle.rcu_part_control.specs.Parts.{control_board, control_view, driver_view}
use Rattle.rcu_part_lists.proofs.Sizes.{in_struct}
use Rattle.rcu_part_close.specs.Closing.{Closes, Ends}
use Rattle.rcu_parts.specs.AtClose.{cpu_parts, other_views}
use Rattle.rcu_part_group.specs.Groups.{group_board}
use Rattle.rcu_parts.specs.declared.ends.Ending.{Ending}
use Rattle.rcu_part_group.specs.contracts.group.Group as group_row
use Rattle.rcu_part_hand.specs.contracts.hand.Hand as hand_row
use Rattle.rcu_part_processor.specs.contracts.processor.Processor as row
use Rattle.rcu_parts.proofs.WholeClose.{answers_with, as_many_hands, first_ready, gathered_all, sound_ends, two_views, weighs_all}
use Rattle.rcu_parts.proofs.ends.close_in.Goals as goal

pub gather_groups-members-requires-after_bounds : goal.gather_groups-members-requires-after_bounds
gather_groups-members-requires-after_bounds g c κs within =
    let h : FitsInMemory (group_row.the_row (param 0 g.row.J) (param 1 g.row.J-Receipt)) = assumption in
    let k = c.args.parts.control in
    let d = c.args.parts.driver in
    let b : c.deref-2.result.now ≡ control_board k = c.deref-2.ensures ∙ c.into_parts-board.ensures.0 in
    let at : c.merge.new.all.seat.table_id ≡ (control_board k).words.table.shared.table_id = c.merge.ensures.same ∙ (c.new-all.ensures.board ∙ (ap (λ s. s.seat.table_id) c.into_parts-board.ensures.1 ∙ k.here)) in
    let two = two_views k d c.merge.new.all c.new-all.result c.into_parts-board.result.1 c.into_seat.result c.new-all.ensures.view c.into_parts-board.ensures.1 c.into_seat.ensures c.merge.ensures.view in
    let rests : (control_view k).running ++ (driver_view d).running ≡ [] = ap (λ l. l ++ (driver_view d).running) k.bare.running ∙ d.bare.running in (
      h,
      (
        in_struct _ _ _ (in_struct _ _ _ (in_struct _ _ _ h)),
        (
          at ∙ ap (λ t. t.words.table.shared.table_id) (sym b),
          (
            ap (λ w. w.running) two ∙ rests,
            (
              subst (λ t. All (λ x. group_board x.state ≡ t) c.args.parts.groups.items) (sym b) c.requires.parts.groups,
              (c.requires.room.no_member, (let a = as_many_hands c.args.parts c.requires.parts in let r = c.requires.room.members in omega (arith, a, r))),
            ),
          ),
        ),
      ),
    )

pub end_each-requires-clause-ready : goal.end_each-requires-clause-ready
end_each-requires-clause-ready g c κs within =
    let p : FitsInMemory (row.the_row (param 0 g.row.J) (param 1 g.row.J-Receipt)) = assumption in
    let h : FitsInMemory (group_row.the_row (param 0 g.row.J) (param 1 g.row.J-Receipt)) = assumption in
    let q : FitsInMemory (hand_row.the_row (param 0 g.row.J) (param 1 g.row.J-Receipt)) = assumption in
    let k = c.args.parts.control in
    let t = c.gather_groups-members.ensures in
    let at : c.gather_groups-members.new.all.seat.table_id ≡ (control_board k).words.table.shared.table_id
    = t.same ∙ (c.merge.ensures.same ∙ (c.new-all.ensures.board ∙ (ap (λ s. s.seat.table_id) c.into_parts-board.ensures.1 ∙ k.here))) in (
      p,
      (
        in_struct _ _ _ (in_struct _ _ _ (in_struct _ _ _ h)),
        (
          q,
          first_ready c.args.parts c.args.room c.from.result.items c.from-2.result.items c.from-3.result.items
              (record { board = c.into_parts-board.result.0; all = c.gather_groups-members.new.all; ran = c.args.room.ran; back = c.args.room.back })
              c.requires.parts c.requires.room c.into_parts-board.ensures.0 (at ∙ ap (λ b. b.words.table.shared.table_id) (sym c.into_parts-board.ensures.0)) t.rests
              (c.from.ensures.0 ∙ t.members) c.from-2.ensures.0 c.from-3.ensures.0 refl refl,
        ),
      ),
    )

pub settle-requires-clause-whole : goal.settle-requires-clause-whole
settle-requires-clause-whole g c =
    let k = c.args.parts.control in
    let d = c.args.parts.driver in
    let e = c.end_each.ensures.ends in
    let two = two_views k d c.merge.new.all c.new-all.result c.into_parts-board.result.1 c.into_seat.result c.new-all.ensures.view c.into_parts-board.ensures.1 c.into_seat.ensures c.merge.ensures.view in
    weighs_all c.args.parts (gathered_view c.end_each.new.self.all) e.ends c.requires.parts (e.parts ∙ ap (cpu_parts c.args.parts.processors.items) c.from-2.ensures.0)
    (gathered_all c.args.parts (gathered_view c.merge.new.all) (gathered_view c.gather_groups-members.new.all) (gathered_view c.end_each.new.self.all) e.ends two c.gather_groups-members.ensures.view e.view)

pub returns : goal.returns
returns g c =
    let k = c.args.parts.control in
    let d = c.args.parts.driver in
    let e = c.end_each.ensures.ends in
    let two = two_views k d c.merge.new.all c.new-all.result c.into_parts-board.result.1 c.into_seat.result c.new-all.ensures.view c.into_parts-board.ensures.1 c.into_seat.ensures c.merge.ensures.view in
    let x : Ending g.row.J.Denot g.row.J-Receipt.Denot = record { board = c.into_parts-board.result.0; all = c.gather_groups-members.new.all; ran = c.args.room.ran; back = c.args.room.back } in
    let answers = answers_with g.J.Job.key_of g.J.Job.gives c.args.parts (record { ran = c.end_each.new.self.ran; back = c.end_each.new.self.back; reports = c.args.room.reports }) c.args.room c.from-2.result.items x c.end_each.new.self c.deref-3.result.now
    c.requires.parts c.requires.room refl refl c.from-2.ensures.0 c.into_parts-board.ensures.0 (c.deref-3.ensures ∙ (c.end_each.ensures.board ∙ c.into_parts-board.ensures.0)) e
    (gathered_all c.args.parts (gathered_view c.merge.new.all) (gathered_view c.gather_groups-members.new.all) (gathered_view c.end_each.new.self.all) e.ends two c.gather_groups-members.ensures.view e.view)
    c.settle.result c.settle.ensures.settled refl refl refl in
    let v = control_view k in
    let others = other_views c.args.parts in record {
      accounts = answers (Ends v others) (λ h. c.closing.ensures.ends _ _ v others e.ends h);
      closes = λ sound. answers (Closes g.J.Job.key_of g.J.Job.gives v others)
          (λ h. c.closing.ensures.closes _ _ v others e.ends h (sound_ends g.J.Job.key_of g.J.Job.gives c.args.parts c.from-2.result.items e.ends sound c.from-2.ensures.0 e.parts));
    }

pub merge-requires-clause-all : goal.merge-requires-clause-all
merge-requires-clause-all g c = let k = c.args.parts.control in c.new-all.ensures.board ∙ (ap (λ s. s.seat.table_id) c.into_parts-board.ensures.1 ∙ (k.here ∙ ap (λ t. t.words.table.shared.table_id) (sym (c.deref.ensures ∙ c.into_parts-board.ensures.0))))

pub merge-requires-clause-board : goal.merge-requires-clause-board
merge-requires-clause-board g c = ap (λ s. s.seat.table_id) c.into_seat.ensures ∙ (c.args.parts.driver.here ∙ ap (λ t. t.words.table.shared.table_id) (c.requires.parts.driver ∙ sym (c.deref.ensures ∙ c.into_parts-board.ensures.0)))

pub merge-requires-clause-rests : goal.merge-requires-clause-rests
merge-requires-clause-rests g c = ap (λ w. w.running) (c.new-all.ensures.view ∙ ap view c.into_parts-board.ensures.1) ∙ c.args.parts.control.bare.running

pub merge-requires-clause-joins : goal.merge-requires-clause-joins
merge-requires-clause-joins g c = ap (λ s. (view s).running) c.into_seat.ensures ∙ c.args.parts.driver.bare.running

pub gather_groups-members-requires-send-J : goal.gather_groups-members-requires-send-J
gather_groups-members-requires-send-J g c κs within = c.type_bounds.send-J

pub gather_groups-members-requires-send-J-Receipt : goal.gather_groups-members-requires-send-J-Receipt
gather_groups-members-requires-send-J-Receipt g c κs within = c.type_bounds.send-J-Receipt

pub end_each-requires-send-J : goal.end_each-requires-send-J
end_each-requires-send-J g c κs within = c.type_bounds.send-J

pub end_each-requires-send-J-Receipt : goal.end_each-requires-send-J-Receipt
end_each-requires-send-J-Receipt g c κs within = c.type_bounds.send-J-Receipt

pub settle-requires-clause-all : goal.settle-requires-clause-all
settle-requires-clause-all g c = c.end_each.ensures.at ∙ ap (λ t. t.words.table.shared.table_id) (sym c.deref-3.ensures)
