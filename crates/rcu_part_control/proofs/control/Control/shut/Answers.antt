use Rattle.std.proofs.Common.{◌∙◌, ◌+◌, ap, sym, subst, arith, length, length-set}
use Rattle.rcu_board.specs.Words.{words_of}
use Rattle.rcu_board.specs.declared.view.View.{View}
use Rattle.rcu_part_control.specs.Control.{Shuts}
use Rattle.rcu_part_control.specs.Parts.{control_board, control_seat, control_view}
use Rattle.rcu_board.proofs.Stepping.{has_words, same_step}
use Rattle.rcu_part_control.proofs.Counting.{shuts_next}
use Rattle.rcu_part_control.proofs.control.Control.shut.Goals as goal

pub loop-p-preserved : goal.loop-p-preserved
loop-p-preserved c =
    let i = c.loop-p.invariant in let b = control_board c.loop-p.self in let s = control_seat c.loop-p.self in let e = c.shut_one-count.ensures in
    let p = c.loop-p.p in let low = c.loop-p-test.true in let few = b.few in let all = i.all in record {
      all = i.all;
      same = same_step _ _ s _ e.same _ i.same;
      long = ap length c.set.ensures.one ∙ length-set c.loop-p.counts.counts p _ ∙ i.long;
      many = c.set.ensures.processors ∙ i.many;
      shuts = subst (λ (w : View). Shuts (p + 1) c.set.new.self (control_view c.args.self.now) w) (sym e.view)
          (shuts_next (words_of b.processors) p c.shut_one-count.result c.loop-p.counts c.set.new.self (control_view c.args.self.now) (control_view c.loop-p.self)
          (has_words b s c.loop-p.self.here) (omega arith) (omega arith) i.long c.set.ensures.one i.shuts);
    }

pub returns-clause-again : goal.returns-clause-again
returns-clause-again c = let i = c.loop-p.invariant in λ p low seen.
    sym ((i.same.seat.later (control_board c.args.self.now) c.args.self.now.here).shut p low seen) ∙ i.shuts.shut p (omega (arith, i.all, c.loop-p-test.false, low))
