use Rattle.check_torture.specs.Kept.{GoesOn}
use Rattle.check_torture.proofs.actors.take_in_parts.Given as goal

abbrev pub invariant-loop-part : goal.invariant-loop-part
invariant-loop-part l = GoesOn l.fn.actor l.actor
