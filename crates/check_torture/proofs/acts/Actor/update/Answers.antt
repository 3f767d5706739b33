use Rattle.std.proofs.Common.{subst, sym}
use Rattle.check_torture.specs.Kept.{GoesOn}
use Rattle.check_torture.proofs.Keeping.{keeps_none}
use Rattle.check_torture.proofs.acts.Actor.update.Goals as goal
use Rattle.check_torture.proofs.acts.Actor.update.Goals.{in-Some, in-None}

pub returns : goal.returns
returns c = elim c.match-retire.branch [
  | in-Some w ↦ subst (GoesOn c.args.self.now) (sym w.self-is) w.call-called.ensures.goes_on
  | in-None w ↦ subst (GoesOn c.args.self.now) (sym w.self-is) (keeps_none _ _)
]
