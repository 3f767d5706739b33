use Rattle.std.proofs.Common.{subst, sym}
use Rattle.rcu_board.proofs.Stepping.{same_again, same_part}
use Rattle.check_torture.specs.Kept.{Steers}
use Rattle.check_torture.proofs.steerer.Steerer.end.Goals as goal
use Rattle.check_torture.proofs.steerer.Steerer.end.Goals.{in-DrainThenShut, in-Shut}

pub returns-in-DrainThenShut-ending : goal.returns-in-DrainThenShut-ending
returns-in-DrainThenShut-ending g c = same_again _ _ _ _ _ _
    (elim c.match-ending.branch [
      | in-DrainThenShut w ↦ subst (Steers c.args.self.now) (sym w.self-is) w.drain-drained.ensures.steers
      | in-Shut w ↦ subst (Steers c.args.self.now) (sym w.self-is) (same_part _ _)
    ])
    c.shut.ensures.same

pub returns-in-Drain : goal.returns-in-Drain
returns-in-Drain g c = elim c.match-ending.branch [
  | in-DrainThenShut w ↦ subst (Steers c.args.self.now) (sym w.self-is) w.drain-drained.ensures.steers
  | in-Shut w ↦ subst (Steers c.args.self.now) (sym w.self-is) (same_part _ _)
]
