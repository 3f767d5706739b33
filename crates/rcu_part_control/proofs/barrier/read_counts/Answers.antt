use Rattle.std.proofs.Common.{◌∙◌, ◌+◌, ap, sym, subst, arith, List, length, length-set}
use Rattle.rcu_board.specs.Words.{words_of}
use Rattle.rcu_board.specs.Seats.{view, first_accepted, first_fresh}
use Rattle.rcu_board.specs.Views.{fresh_count}
use Rattle.rcu_board.specs.declared.view.Own.{Own}
use Rattle.rcu_board.specs.declared.view.View.{View}
use Rattle.rcu_part_control.specs.Barriers.{ReadsCounts}
use Rattle.rcu_board.proofs.Stepping.{has_words}
use Rattle.rcu_part_control.proofs.Counting.{reads_next, own_next}
use Rattle.rcu_board.proofs.Facts.{same_seat_again}
use Rattle.rcu_part_control.proofs.barrier.read_counts.Goals as goal

pub loop-p-preserved : goal.loop-p-preserved
loop-p-preserved c =
    let i = c.loop-p.invariant in let b = c.args.board.now in let s = c.loop-p.seat in let e = c.count_of-accepted.ensures in
    let p = c.loop-p.p in let low = c.loop-p-test.true in let few = b.few in record {
      same = same_seat_again _ s _ i.same e.same;
      long = ap length c.set.ensures.one ∙ length-set c.loop-p.counts.counts p _ ∙ i.long;
      many = c.set.ensures.processors ∙ i.many;
      reads = subst (λ (w : View). ReadsCounts (p + 1) c.set.new.self (view c.args.seat.now) w) (sym e.view)
          (reads_next (words_of b.processors) p c.count_of-accepted.result c.loop-p.counts c.set.new.self (view c.args.seat.now) (view s)
          (has_words b s (i.same.table ∙ c.requires.board)) (omega arith) (omega arith) i.long c.set.ensures.one i.reads);
      own = own_next p c.count_of-accepted.result c.loop-p.counts c.set.new.self c.args.seat.now (omega arith) i.long c.set.ensures.one i.own
          (λ is. e.own (i.same.role ∙ is) ∙ ap (λ (os : List Own). length (first_accepted os) + fresh_count (first_fresh os)) i.reads.steps.lists.own);
    }
