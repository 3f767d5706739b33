use Rattle.std.proofs.Common.{◌≡◌, ◌∙◌, ◌≤◌, ◌+◌, Some, [], ◌∷◌, ◌++◌, map, ap, refl, sym, length, ◌<◌}
use Rattle.std.proofs.Math.Path.{subst, subst₂}
use Rattle.std.specs.Mem.{FitsInMemory}
use Rattle.std.proofs.lemmas.List.{map-append}
use denote.Param.{param}
use Rattle.rcu_board.specs.Seats.{view, AtBoard}
use Rattle.rcu_board.specs.Views.{joined}
use Rattle.rcu_part_close.specs.Ends.{EndsWith, HasRoom}
use Rattle.rcu_part_lists.proofs.Sizes.{in_struct}
use Rattle.rcu_part_lists.specs.ProcessorLists.{held_in, holding, put_by, rear_of}
use Rattle.rcu_part_lists.specs.Helds.{drawn_by, front_of as hands_front, taken_by}
use Rattle.rcu_part_lists.specs.MemberLists.{front_of, rear_of as done_rear}
use Rattle.rcu_lanes.specs.Ends.{SameLane}
use Rattle.rcu_part_order.specs.Recorded.{left_in, ran_of}
use Rattle.rcu_part_order.specs.Records.{by_number}
use Rattle.rcu_parts.specs.AtClose.{cpu_part, hand_part}
use Rattle.rcu_parts.specs.Ending.{all_back, all_ran, all_view, board_at}
use Rattle.rcu_part_hand.specs.Hands.{hand_board}
use Rattle.rcu_part_processor.specs.Processors.{board_of}
use Rattle.rcu_part_group.specs.contracts.members.GroupMember as group_member_row
use Rattle.rcu_part_hand.specs.contracts.hand.Hand as hand_row
use Rattle.rcu_part_processor.specs.contracts.processor.Processor as row
use Rattle.rcu_parts.proofs.Resting.{both_long, rests_with, still_rests}
use Rattle.rcu_parts.proofs.ends.Ending.end_with_hand.Given.{Over}
use Rattle.rcu_parts.proofs.ends.Ending.end_with_hand.Goals.{Start}
use Rattle.rcu_board.specs.declared.board.Board.{Board}
use Rattle.std.specs.Vec.{vec_capacity, vec_len}
use Rattle.rcu_parts.proofs.ends.Ending.end_with_hand.Goals as goal

processor_fits : (g : Over) (c : Start g) → FitsInMemory (row.the_row (param 0 g.row.J) (param 1 g.row.J-Receipt))
processor_fits g c = assumption

group_member_fits : (g : Over) (c : Start g) → FitsInMemory (group_member_row.the_row (param 0 g.row.J))
group_member_fits g c = assumption

hand_fits : (g : Over) (c : Start g) → FitsInMemory (hand_row.the_row (param 0 g.row.J) (param 1 g.row.J-Receipt))
hand_fits g c = assumption

pub end_offloadable-requires-after_bounds : goal.end_offloadable-requires-after_bounds
end_offloadable-requires-after_bounds g c κs within =
    let r = c.requires.room in
    let s = sym c.into_state-seat.ensures in
    let t = sym c.into_state-hands_seat.ensures in
    let u = sym c.into_lists.ensures in
    let start = c.before.before.before.before.before.before.before.before.before.before in (
      in_struct _ _ _ (in_struct _ _ _ (processor_fits g start)),
      (
        in_struct _ _ _ (group_member_fits g start),
        (
          in_struct _ _ _ (in_struct _ _ _ (in_struct _ _ _ (hand_fits g start))),
          (
            subst₂ (λ m p. SameLane (front_of m) (rear_of p.lists)) u s c.requires.member.lane,
            (
              subst₂ (λ h m. SameLane (hands_front h.hand.held) (done_rear m)) t u c.requires.hand.lane,
              (
                r.jobs,
                subst₂ (λ p h. HasRoom (length (left_in p.ran) + length (left_in h.hand.ran)) r.jobs c.args.room) s t r.empty,
                subst₂ (λ p h. length (put_by (holding p.lists)) + length (held_in (holding p.lists)) ≤ length (taken_by h.hand.held) + r.jobs) s t r.enough,
              ),
            ),
          ),
        ),
      ),
    )

pub returns-clause-ends : goal.returns-clause-ends
returns-clause-ends g c =
    let k = c.keep.ensures in
    let t = c.take_in.ensures in
    let u = c.take_in-2.ensures in
    let s = c.into_state-seat.ensures in
    let f = c.into_state-hands_seat.ensures in
    let p = cpu_part c.args.processor (Some (hand_part c.args.hand)) in
    record {
      end = record {
        part = p;
        ran = by_number (ran_of c.args.processor.state.ran) (ran_of c.args.hand.state.hand.ran);
        kept = c.end_offloadable.result.ran.items;
        back = c.end_offloadable.result.back.items;
      };
      part = refl;
      at_rest = rests_with c.args.processor c.args.hand (c.requires.hand.cpu ∙ c.requires.member.cpu);
      ended = record {
        ends = subst₂ (λ p h. EndsWith g.J.Job.key_of g.J.Job.gives (ran_of p.ran) (ran_of h.hand.ran) (holding p.lists) (taken_by h.hand.held) (drawn_by h.hand.held) (by_number (ran_of p.ran) (ran_of h.hand.ran)) c.end_offloadable.result.back.items) s f c.end_offloadable.ensures.ends;
        ran = refl;
        kept = subst₂ (λ p h. c.end_offloadable.result.ran.items ≡ by_number (left_in p.ran) (left_in h.hand.ran)) s f c.end_offloadable.ensures.kept;
      };
      view = ap all_view k.others ∙ (u.view ∙ (ap (λ w. joined w (view c.into_state-hands_seat.result.hand.seat)) t.view ∙ subst₂ (λ p h. joined (joined (all_view c.args.self.now) (view c.into_state-seat.result.seat)) (view c.into_state-hands_seat.result.hand.seat) ≡ joined (joined (all_view c.args.self.now) (view p.seat)) (view h.hand.seat)) s f refl));
      long = both_long (board_at c.args.self.now) (board_of c.args.processor.state) (hand_board c.args.hand.state) c.args.processor.state.seat c.args.hand.state.hand.seat c.requires.board c.requires.hand_board c.args.processor.state.here c.args.hand.state.hand.here;
      ran = ap (map (λ v. v.items)) k.ran ∙ (map-append (λ v. v.items) c.take_in-2.new.self.ran.items (c.end_offloadable.result.ran ∷ [])
          ∙ (ap (λ x. all_ran x ++ c.end_offloadable.result.ran.items ∷ []) u.others ∙ ap (λ x. all_ran x ++ c.end_offloadable.result.ran.items ∷ []) t.others));
      back = ap (map (λ v. v.items)) k.back ∙ (map-append (λ v. v.items) c.take_in-2.new.self.back.items (c.end_offloadable.result.back ∷ [])
          ∙ (ap (λ x. all_back x ++ c.end_offloadable.result.back.items ∷ []) u.others ∙ ap (λ x. all_back x ++ c.end_offloadable.result.back.items ∷ []) t.others));
    }

pub into_state-seat-requires-after_bounds : goal.into_state-seat-requires-after_bounds
into_state-seat-requires-after_bounds g c κs within = (processor_fits g c, in_struct _ _ _ (processor_fits g c))

pub into_state-hands_seat-requires-after_bounds : goal.into_state-hands_seat-requires-after_bounds
into_state-hands_seat-requires-after_bounds g c κs within = (hand_fits g c.before.before, in_struct _ _ _ (hand_fits g c.before.before))

pub into_lists-requires : goal.into_lists-requires
into_lists-requires g c = let h = group_member_fits g c.before.before.before.before.before.before.before.before.before in (h, in_struct _ _ _ h)

pub take_in-requires-clause-at : goal.take_in-requires-clause-at
take_in-requires-clause-at g c κs within = c.requires.may.at

pub take_in-requires-clause-board : goal.take_in-requires-clause-board
take_in-requires-clause-board g c κs within = subst (λ s. AtBoard (board_at c.args.self.now) s.seat) (sym c.into_state-seat.ensures) (subst (λ (b : Board). AtBoard b c.args.processor.state.seat) (c.requires.board) c.args.processor.state.here)

pub take_in-requires-clause-rests : goal.take_in-requires-clause-rests
take_in-requires-clause-rests g c κs within = c.requires.may.rests

pub take_in-requires-clause-joins : goal.take_in-requires-clause-joins
take_in-requires-clause-joins g c κs within = subst (λ s. (view s.seat).running ≡ []) (sym c.into_state-seat.ensures) c.args.processor.state.lawful.rests

pub take_in-requires-2-clause-board : goal.take_in-requires-2-clause-board
take_in-requires-2-clause-board g c κs within = let h = c.args.hand.state in subst (λ s. AtBoard (board_at c.take_in.new.self) s.hand.seat) (sym c.into_state-hands_seat.ensures)
    (subst (λ (b : Board). AtBoard b h.hand.seat) (c.requires.hand_board ∙ sym (ap board_at c.take_in.ensures.others)) h.hand.here)

pub take_in-requires-2-clause-joins : goal.take_in-requires-2-clause-joins
take_in-requires-2-clause-joins g c κs within = subst (λ s. (view s.hand.seat).running ≡ []) (sym c.into_state-hands_seat.ensures) c.args.hand.state.lawful.rests

pub keep-requires-clause-ran : goal.keep-requires-clause-ran
keep-requires-clause-ran g c κs within = subst (λ x. vec_len x.ran < vec_capacity x.ran) (sym c.take_in-2.ensures.others) (subst (λ x. vec_len x.ran < vec_capacity x.ran) (sym c.take_in.ensures.others) c.requires.may.ran)

pub keep-requires-clause-back : goal.keep-requires-clause-back
keep-requires-clause-back g c κs within = subst (λ x. vec_len x.back < vec_capacity x.back) (sym c.take_in-2.ensures.others) (subst (λ x. vec_len x.back < vec_capacity x.back) (sym c.take_in.ensures.others) c.requires.may.back)

pub into_state-seat-requires-send-J : goal.into_state-seat-requires-send-J
into_state-seat-requires-send-J g c κs within = c.type_bounds.send-J

pub into_state-seat-requires-send-J-Receipt : goal.into_state-seat-requires-send-J-Receipt
into_state-seat-requires-send-J-Receipt g c κs within = c.type_bounds.send-J-Receipt

pub into_state-hands_seat-requires-send-J : goal.into_state-hands_seat-requires-send-J
into_state-hands_seat-requires-send-J g c κs within = c.type_bounds.send-J

pub into_state-hands_seat-requires-send-J-Receipt : goal.into_state-hands_seat-requires-send-J-Receipt
into_state-hands_seat-requires-send-J-Receipt g c κs within = c.type_bounds.send-J-Receipt

pub take_in-requires-2-clause-at : goal.take_in-requires-2-clause-at
take_in-requires-2-clause-at g c κs within = c.take_in.ensures.same ∙ (c.requires.may.at ∙ ap (λ b. b.words.table.shared.table_id) (sym (ap board_at c.take_in.ensures.others)))

pub take_in-requires-2-clause-rests : goal.take_in-requires-2-clause-rests
take_in-requires-2-clause-rests g c κs within = still_rests (all_view c.args.self.now) (view c.into_state-seat.result.seat) (all_view c.take_in.new.self) c.take_in.ensures.view c.requires.may.rests
    (subst (λ s. (view s.seat).running ≡ []) (sym c.into_state-seat.ensures) c.args.processor.state.lawful.rests)

pub end_offloadable-requires-send-J : goal.end_offloadable-requires-send-J
end_offloadable-requires-send-J g c κs within = c.type_bounds.send-J

pub end_offloadable-requires-send-J-Receipt : goal.end_offloadable-requires-send-J-Receipt
end_offloadable-requires-send-J-Receipt g c κs within = c.type_bounds.send-J-Receipt

pub returns-clause-goes_on : goal.returns-clause-goes_on
returns-clause-goes_on g c = let k = c.keep.ensures in let t = c.take_in.ensures in let u = c.take_in-2.ensures in record {
  board = ap board_at k.others ∙ (ap board_at u.others ∙ ap board_at t.others);
  same = ap (λ e. e.all.seat.table_id) k.others ∙ (u.same ∙ t.same);
  rests = ap (λ e. (all_view e).running) k.others ∙ still_rests (all_view c.take_in.new.self) (view c.into_state-hands_seat.result.hand.seat) (all_view c.take_in-2.new.self) u.view
      (still_rests (all_view c.args.self.now) (view c.into_state-seat.result.seat) (all_view c.take_in.new.self) t.view c.requires.may.rests
      (subst (λ s. (view s.seat).running ≡ []) (sym c.into_state-seat.ensures) c.args.processor.state.lawful.rests))
      (subst (λ s. (view s.hand.seat).running ≡ []) (sym c.into_state-hands_seat.ensures) c.args.hand.state.lawful.rests);
  ran = (k.for_ran.0 ∙ (ap (λ e. vec_len e.ran + 1) u.others ∙ ap (λ e. vec_len e.ran + 1) t.others), k.for_ran.1 ∙ (ap (λ e. vec_capacity e.ran) u.others ∙ ap (λ e. vec_capacity e.ran) t.others));
  back = (k.for_back.0 ∙ (ap (λ e. vec_len e.back + 1) u.others ∙ ap (λ e. vec_len e.back + 1) t.others), k.for_back.1 ∙ (ap (λ e. vec_capacity e.back) u.others ∙ ap (λ e. vec_capacity e.back) t.others));
}
