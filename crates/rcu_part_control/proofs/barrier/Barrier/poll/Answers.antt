use Rattle.std.proofs.Common.{◌+◌, ◌*◌, ◌≤◌, ◌<◌, ℕ, ap, sym, subst, arith}
use Rattle.rcu_board.specs.Words.{words_of, turns_word}
use Rattle.rcu_board.specs.Views.{seen_at}
use Rattle.rcu_board.specs.Seats.{view}
use Rattle.rcu_board.specs.declared.board.Board.{Board}
use Rattle.rcu_board.specs.declared.view.View.{View}
use Rattle.rcu_board.specs.Frames.{StepsOnEach}
use Rattle.rcu_part_control.specs.Barriers.{HasNotPassed, count_at}
use Rattle.rcu_board.proofs.Stepping.{has_words, steps_on_next, seen_here, turns_differ, same_again}
use Rattle.rcu_part_control.proofs.Counting.{over_next}
use Rattle.rcu_part_control.proofs.barrier.Barrier.poll.Goals as goal

pub returns-then-read_turn-self-clause-polls : goal.returns-then-read_turn-self-clause-polls
returns-then-read_turn-self-clause-polls g c =
    let i = c.loop-p.invariant in let b = g.W.ReadsTurns.board_of c.loop-p.by in let s = g.W.ReadsTurns.seat_of c.loop-p.by in let e = c.read_turn.ensures in
    let p = c.loop-p.p in let x = c.read_turn.result in let k = words_of b.processors in let words = has_words b s e.here in
    let n = ap (λ (z : Board). z.processors) i.same.board in let low = c.loop-p-test.true in let few = b.few in let open' = c.requires.open in
    let below = c.if-read_turn-self.true in
    subst (λ (w : View). HasNotPassed c.args.self.now.counts (view (g.W.ReadsTurns.seat_of c.args.by.now)) w) (sym e.view) (record {
      cpu = p;
      there = omega arith;
      steps = steps_on_next turns_word k p x (view (g.W.ReadsTurns.seat_of c.args.by.now)) (view s) turns_differ words (omega arith) i.steps;
      below = let h = seen_here k (turns_word p) x (view s) words (omega arith) in omega arith;
    })

pub returns-then-read_turn-self-clause-keeps : goal.returns-then-read_turn-self-clause-keeps
returns-then-read_turn-self-clause-keeps g c = g.met.W.ReadsTurns.keeps_again _ _ _ c.loop-p.invariant.keeps c.read_turn.ensures.keeps

pub loop-p-preserved : goal.loop-p-preserved
loop-p-preserved g c =
    let i = c.loop-p.invariant in let b = g.W.ReadsTurns.board_of c.loop-p.by in let s = g.W.ReadsTurns.seat_of c.loop-p.by in let e = c.read_turn.ensures in
    let v = view (g.W.ReadsTurns.seat_of c.args.by.now) in let counts = c.args.self.now.counts in
    let p = c.loop-p.p in let x = c.read_turn.result in let k = words_of b.processors in let words = has_words b s e.here in
    let n = ap (λ (z : Board). z.processors) i.same.board in let low = c.loop-p-test.true in let few = b.few in let open' = c.requires.open in
    let over = c.if-read_turn-self.false in record {
      same = same_again _ _ _ _ _ _ i.same e.same;
      keeps = g.met.W.ReadsTurns.keeps_again _ _ _ i.keeps e.keeps;
      steps = subst (λ (w : View). StepsOnEach turns_word (p + 1) v w) (sym e.view) (steps_on_next turns_word k p x v (view s) turns_differ words (omega arith) i.steps);
      over = subst (λ (w : View). (q : ℕ) → q < p + 1 → 2 * count_at counts q ≤ seen_at w (turns_word q)) (sym e.view)
          (over_next k p x counts (view s) words (omega arith) (omega arith) i.over);
    }

pub returns-then-read_turn-self-clause-same : goal.returns-then-read_turn-self-clause-same
returns-then-read_turn-self-clause-same g c = same_again _ _ _ _ _ _ c.loop-p.invariant.same c.read_turn.ensures.same
