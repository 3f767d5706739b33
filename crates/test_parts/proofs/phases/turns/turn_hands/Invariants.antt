use Rattle.test_parts.specs.Kept.{HandsKeep}
use Rattle.test_parts.proofs.phases.turns.turn_hands.Given as goal

abbrev pub invariant-loop : goal.invariant-loop
invariant-loop g l = HandsKeep g.J.Job.key_of g.J.Job.gives l.fn.hands.items l.hands.items
