use Rattle.std.proofs.Common.{◌∙◌, subst, sym}
use Rattle.rcu_board.proofs.Stepping.{same_again}
use Rattle.check_torture.specs.Kept.{SteersOn}
use Rattle.check_torture.proofs.steerer.Steerer.steer.Goals as goal
use Rattle.check_torture.proofs.steerer.Steerer.steer.Goals.{then-once_in, else-once_in}

pub loop-preserved : goal.loop-preserved
loop-preserved g c =
    let before = c.loop.invariant.steers in
    let once : SteersOn c.loop.self c.if-once_in.self = elim c.if-once_in.branch [
      | then-once_in w ↦ (let e = w.pass_barriers.ensures in subst (SteersOn c.loop.self) (sym w.self-is) (record { steers = e.steers; drained = e.drained; many = e.many }))
      | else-once_in w ↦ (let e = w.switch.ensures in subst (SteersOn c.loop.self) (sym w.self-is) (record { steers = e.steers; drained = e.drained; many = e.many }))
    ] in record {
      next = tt;
      finite = tt;
      steers = record {
        steers = same_again _ _ _ _ _ _ before.steers once.steers;
        drained = once.drained ∙ before.drained;
        many = once.many ∙ before.many;
      };
    }
