use Rattle.check_torture.specs.Acts.{ActsBeside}
use Rattle.check_torture.proofs.acts.Actor.await_others.Given as goal

abbrev pub invariant-loop : goal.invariant-loop
invariant-loop l = ActsBeside l.fn.self l.self
