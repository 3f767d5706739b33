use Rattle.std.proofs.Common.{ℕ, ◌≢◌, ◌<◌, ◌∙◌, ap, refl, sym, subst, arith}
use Rattle.rcu_board.specs.Words.{board_word, reports_word}
use Rattle.rcu_board.specs.declared.board.Board.{Board}
use Rattle.rcu_board.specs.Seats.{AllAccounted}
use Rattle.rcu_part_control.specs.Driving.{SawOwing}
use Rattle.rcu_part_control.specs.Parts.{driver_board, driver_view}
use Rattle.rcu_board.proofs.Facts.{same_seat_again}
use Rattle.rcu_board.proofs.Stepping.{same_again}
use Rattle.rcu_part_control.proofs.Rounds.{round_next, before_stays, before_next}
use Rattle.rcu_part_control.proofs.driver.Driver.conclude.Goals as goal

board_is_none : (p : ℕ) → board_word ≢ reports_word p
board_is_none p e = absurd (omega (arith, e))

pub loop-p-preserved : goal.loop-p-preserved
loop-p-preserved c = let i = c.loop-p.invariant in let e = c.account.ensures in
    record {
      same = same_again _ _ _ _ _ _ i.same e.same;
      round = round_next _ _ _ _ _ (omega (arith, c.loop-p-test.true, c.processors-p-end.ensures.same, ap (λ (b : Board). b.processors) c.deref.ensures)) i.round e.steps;
      sight = (e.steps.others board_word (board_is_none c.loop-p.p)).seen ∙ i.sight;
      seen = refl;
      before = before_next _ _ _ _ e.steps i.before (e.accounted c.if-not-account.false);
    }

pub returns-then-not-account-clause-same : goal.returns-then-not-account-clause-same
returns-then-not-account-clause-same c = same_again _ _ _ _ _ _ c.loop-p.invariant.same c.account.ensures.same

pub returns-then-not-account-clause-concludes : goal.returns-then-not-account-clause-concludes
returns-then-not-account-clause-concludes c = let i = c.loop-p.invariant in let e = c.account.ensures in
    let there : c.loop-p.p < (driver_board c.args.self.now).processors = omega (arith, c.loop-p-test.true, c.processors-p-end.ensures.same, ap (λ (b : Board). b.processors) c.deref.ensures) in
    let w = driver_view c.account.new.self in record {
      there = there;
      round = round_next _ _ _ _ _ there i.round e.steps;
      before = subst (λ (s : ℕ). AllAccounted c.loop-p.p s w) (sym c.requires.seen) (before_stays _ _ _ _ e.steps i.before);
      owing = subst (λ (s : ℕ). SawOwing c.loop-p.p s w) (sym c.requires.seen) (e.owes c.if-not-account.true);
    }

pub returns-clause-same : goal.returns-clause-same
returns-clause-same c = record { board = c.loop-p.invariant.same.board; seat = same_seat_again _ _ _ c.loop-p.invariant.same.seat c.end.ensures.same }
