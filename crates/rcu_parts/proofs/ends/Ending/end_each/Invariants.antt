use Rattle.rcu_parts.proofs.OneByOne.{EndsSoFar}
use Rattle.rcu_parts.proofs.ends.Ending.end_each.Given as goal

abbrev pub invariant-loop-processor : goal.invariant-loop-processor
invariant-loop-processor g l = EndsSoFar g.J.Job.key_of g.J.Job.gives l.fn.processors.items l.fn.hands.items l.processor-iterator.rest.items l.members.items l.hands.items l.rooms.items l.fn.self l.self
