use Rattle.rcu_runtime.specs.Passing.{PassesHand}
use Rattle.rcu_runtime.proofs.Changing.{FirstsOf}
use Rattle.rcu_runtime.proofs.turns.turn_each_hand.Given as goal

abbrev pub invariant-loop-hand : goal.invariant-loop-hand
invariant-loop-hand g l = FirstsOf (PassesHand g.J.Job.key_of g.J.Job.gives) l.hand-index l.fn.hands.items l.hand-items
