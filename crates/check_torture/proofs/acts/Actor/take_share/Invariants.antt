use Rattle.check_torture.specs.Kept.{GoesOn}
use Rattle.check_torture.proofs.acts.Actor.take_share.Given as goal

abbrev pub invariant-loop : goal.invariant-loop
invariant-loop l = GoesOn l.fn.self l.self
