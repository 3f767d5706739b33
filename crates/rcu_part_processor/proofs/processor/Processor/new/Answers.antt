use Rattle.std.proofs.Common.{◌≡◌, ap, sym, ◌∙◌, refl, subst, arith}
use Rattle.std.specs.Arc.{arc_value}
use Rattle.rcu_board.specs.Seats.{own_word, view}
use Rattle.rcu_board.specs.declared.board.Board.{Board}
use Rattle.rcu_numbers.specs.Words.{owes_of}
use Rattle.rcu_part_lists.specs.ProcessorLists.{holding}
use Rattle.rcu_jobs.specs.Modes.{first_mode}
use Rattle.rcu_part_order.specs.Recorded.{Recorded, ran_of}
use Rattle.rcu_part_processor.proofs.Beginnings.{first_law, offloads_at}
use Rattle.rcu_part_processor.proofs.processor.Processor.new.Goals as goal

pub invariant_of-result : goal.invariant_of-result
invariant_of-result g c = let q = c.requires.seat in let e = c.requires.lists in let within = c.args.shape.now.within in
    let o = c.is_offloadable-offloadable in let kind = offloads_at (arc_value c.args.board) c.deref.result.now c.deref.ensures o.result c.args.cpu o.ensures in record {
      here = q.board;
      role = q.who;
      there = c.requires.there;
      bit = λ on. subst (λ (b : Board). owes_of b.offloadable c.args.cpu ≡ 1) c.deref.ensures (o.ensures.0 on);
      local = λ off. (e.mode ∙ ap first_mode (sym kind ∙ off), e.put);
      small = (omega arith, let few = within.accepted.1 in omega arith);
      since = record { word = ap own_word q.first_view; small = omega arith };
      lawful = first_law (arc_value c.args.board) c.args.cpu (view c.args.seat) (ran_of c.new.result) (holding c.args.lists) q.first_view (ap (λ (r : Recorded g.row.J-Receipt.Denot). r.all) c.new.ensures.none) e.put e.bypass e.own e.looked;
    }

pub returns : goal.returns
returns g c = let o = c.is_offloadable-offloadable in record {
  new = record {
    board = refl;
    seat = refl;
    lists_are = refl;
    cpu_is = refl;
    offloadable = offloads_at (arc_value c.args.board) c.deref.result.now c.deref.ensures o.result c.args.cpu o.ensures;
    limit = refl;
    blimit = refl;
    accepted = refl;
    passed = refl;
    ran = c.new.ensures.none;
  };
}
