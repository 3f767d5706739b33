use Rattle.std.proofs.Common.{◌∙◌, ◌+◌, ◌≤◌, None, [], ◌∷◌, ◌++◌, map, ap, refl, sym, arith, length, ◌≡◌, ◌<◌}
use Rattle.std.proofs.Math.Path.{subst}
use Rattle.std.specs.Vec.{vec_capacity, vec_len}
use Rattle.std.specs.Mem.{FitsInMemory}
use Rattle.std.proofs.lemmas.List.{map-append}
use denote.Param.{param}
use Rattle.rcu_board.specs.Seats.{view, AtBoard}
use Rattle.rcu_board.specs.Views.{joined}
use Rattle.rcu_part_close.specs.Ends.{EndsWith}
use Rattle.rcu_part_lists.proofs.Sizes.{in_struct}
use Rattle.rcu_part_lists.specs.ProcessorLists.{held_in, holding}
use Rattle.rcu_part_order.specs.Recorded.{left_in, ran_of}
use Rattle.rcu_part_order.proofs.Merging.{by_number_alone}
use Rattle.rcu_parts.specs.AtClose.{cpu_part}
use Rattle.rcu_parts.specs.Ending.{all_back, all_ran, all_view, board_at}
use Rattle.rcu_part_processor.specs.Processors.{board_of}
use Rattle.rcu_part_processor.specs.contracts.processor.Processor as row
use Rattle.rcu_parts.proofs.Resting.{one_long, rests_alone, still_rests}
use Rattle.rcu_parts.proofs.ends.Ending.end_alone.Given.{Over}
use Rattle.rcu_parts.proofs.ends.Ending.end_alone.Goals.{Start}
use Rattle.rcu_board.specs.declared.board.Board.{Board}
use Rattle.rcu_parts.proofs.ends.Ending.end_alone.Goals as goal

processor_fits : (g : Over) (c : Start g) → FitsInMemory (row.the_row (param 0 g.row.J) (param 1 g.row.J-Receipt))
processor_fits g c = assumption

pub end_local-requires-after_bounds : goal.end_local-requires-after_bounds
end_local-requires-after_bounds g c κs within =
    let r = c.requires.room in
    let s = c.into_state-seat.ensures in
    let b = vec_capacity c.args.room.back in (
      in_struct _ _ _ (in_struct _ _ _ (processor_fits g c.before.before.before.before.before)),
      (
        (c.into_state-seat.result.local (ap (λ p. p.offloadable) s ∙ c.requires.alone)).1,
        (r.empty.no_job, subst (λ p. length (held_in (holding p.lists)) ≤ b) (sym s) (let e = r.enough in let j = r.empty.for_jobs in omega (arith, e, j))),
      ),
    )

pub returns-clause-ends : goal.returns-clause-ends
returns-clause-ends g c =
    let k = c.keep.ensures in
    let t = c.take_in.ensures in
    let e = c.end_local.ensures in
    let s = c.into_state-seat.ensures in
    let p = cpu_part c.args.processor None in
    record {
      end = record { part = p; ran = ran_of c.args.processor.state.ran; kept = c.end_local.result.ran.items; back = c.end_local.result.back.items };
      part = refl;
      at_rest = rests_alone c.args.processor;
      ended = record {
        ends = subst (λ q. EndsWith g.J.Job.key_of g.J.Job.gives (ran_of q.ran) [] (holding q.lists) [] [] (ran_of q.ran) c.end_local.result.back.items) s e.ends;
        ran = sym (by_number_alone (ran_of c.args.processor.state.ran));
        kept = e.kept ∙ (ap (λ q. left_in q.ran) s ∙ sym (by_number_alone (left_in c.args.processor.state.ran)));
      };
      view = ap all_view k.others ∙ (t.view ∙ ap (λ q. joined (all_view c.args.self.now) (view q.seat)) s);
      long = one_long (board_at c.args.self.now) (board_of c.args.processor.state) c.args.processor.state.seat c.requires.board c.args.processor.state.here;
      ran = ap (map (λ v. v.items)) k.ran ∙ (map-append (λ v. v.items) c.take_in.new.self.ran.items (c.end_local.result.ran ∷ []) ∙ ap (λ x. all_ran x ++ c.end_local.result.ran.items ∷ []) t.others);
      back = ap (map (λ v. v.items)) k.back ∙ (map-append (λ v. v.items) c.take_in.new.self.back.items (c.end_local.result.back ∷ []) ∙ ap (λ x. all_back x ++ c.end_local.result.back.items ∷ []) t.others);
    }

pub into_state-seat-requires-after_bounds : goal.into_state-seat-requires-after_bounds
into_state-seat-requires-after_bounds g c κs within = (processor_fits g c, in_struct _ _ _ (processor_fits g c))

pub take_in-requires-clause-at : goal.take_in-requires-clause-at
take_in-requires-clause-at g c κs within = c.requires.may.at

pub take_in-requires-clause-board : goal.take_in-requires-clause-board
take_in-requires-clause-board g c κs within = subst (λ s. AtBoard (board_at c.args.self.now) s.seat) (sym c.into_state-seat.ensures) (subst (λ (b : Board). AtBoard b c.args.processor.state.seat) (c.requires.board) c.args.processor.state.here)

pub take_in-requires-clause-rests : goal.take_in-requires-clause-rests
take_in-requires-clause-rests g c κs within = c.requires.may.rests

pub take_in-requires-clause-joins : goal.take_in-requires-clause-joins
take_in-requires-clause-joins g c κs within = subst (λ s. (view s.seat).running ≡ []) (sym c.into_state-seat.ensures) c.args.processor.state.lawful.rests

pub keep-requires-clause-ran : goal.keep-requires-clause-ran
keep-requires-clause-ran g c κs within = subst (λ x. vec_len x.ran < vec_capacity x.ran) (sym (c.take_in.ensures.others)) c.requires.may.ran

pub keep-requires-clause-back : goal.keep-requires-clause-back
keep-requires-clause-back g c κs within = subst (λ x. vec_len x.back < vec_capacity x.back) (sym (c.take_in.ensures.others)) c.requires.may.back

pub into_state-seat-requires-send-J : goal.into_state-seat-requires-send-J
into_state-seat-requires-send-J g c κs within = c.type_bounds.send-J

pub into_state-seat-requires-send-J-Receipt : goal.into_state-seat-requires-send-J-Receipt
into_state-seat-requires-send-J-Receipt g c κs within = c.type_bounds.send-J-Receipt

pub end_local-requires-send-J : goal.end_local-requires-send-J
end_local-requires-send-J g c κs within = c.type_bounds.send-J

pub end_local-requires-send-J-Receipt : goal.end_local-requires-send-J-Receipt
end_local-requires-send-J-Receipt g c κs within = c.type_bounds.send-J-Receipt

pub returns-clause-goes_on : goal.returns-clause-goes_on
returns-clause-goes_on g c = let k = c.keep.ensures in let t = c.take_in.ensures in record {
  board = ap board_at k.others ∙ ap board_at t.others;
  same = ap (λ e. e.all.seat.table_id) k.others ∙ t.same;
  rests = ap (λ e. (all_view e).running) k.others ∙ still_rests (all_view c.args.self.now) (view c.into_state-seat.result.seat) (all_view c.take_in.new.self) t.view c.requires.may.rests
      (subst (λ s. (view s.seat).running ≡ []) (sym c.into_state-seat.ensures) c.args.processor.state.lawful.rests);
  ran = (k.for_ran.0 ∙ ap (λ e. vec_len e.ran + 1) t.others, k.for_ran.1 ∙ ap (λ e. vec_capacity e.ran) t.others);
  back = (k.for_back.0 ∙ ap (λ e. vec_len e.back + 1) t.others, k.for_back.1 ∙ ap (λ e. vec_capacity e.back) t.others);
}
