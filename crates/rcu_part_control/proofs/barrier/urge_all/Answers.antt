use Rattle.std.proofs.Common.{◌≡◌, ℕ, arith, subst, refl, ◌∙◌}
use Rattle.rcu_board.specs.Words.{urges_of}
use Rattle.rcu_board.specs.Seats.{view}
use Rattle.rcu_board.proofs.Facts.{same_seat, same_seat_again}
use Rattle.rcu_part_control.specs.Barriers.{UrgesFirst}
use Rattle.rcu_part_control.proofs.Urging.{urges_none, urges_next}
use Rattle.rcu_part_control.proofs.barrier.urge_all.Goals as goal

pub loop-k-init : goal.loop-k-init
loop-k-init c = record { same = same_seat c.args.seat.now; urges = urges_none c.args.board.now.processors (view c.args.seat.now) }

pub loop-k-preserved : goal.loop-k-preserved
loop-k-preserved c = let i = c.loop-k.invariant in record {
  same = same_seat_again _ c.loop-k.seat _ i.same c.urge.ensures.same;
  urges = urges_next c.args.board.now.processors c.loop-k.k (view c.args.seat.now) (view c.loop-k.seat) _ i.urges c.urge.ensures.view;
}

pub returns-clause-urges : goal.returns-clause-urges
returns-clause-urges c = let n = c.args.board.now.processors in let e = c.loop-k-test.false in let last = c.loop-k.auto.k-end in let many = c.urge_words-k-end.ensures in
    let same : c.loop-k.k ≡ urges_of n = omega arith in subst (λ (k : ℕ). UrgesFirst n k (view c.args.seat.now) (view c.loop-k.seat)) same c.loop-k.invariant.urges
