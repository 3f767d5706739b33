use Rattle.rcu_part_hand.specs.Hands.{SameHand, IsSoundHand, Ran}
use Rattle.rcu_part_hand.proofs.hand.Hand.run_held.Given as goal

abbrev pub invariant-loop-ran : goal.invariant-loop-ran
invariant-loop-ran g l = record {
  same : SameHand l.fn.self.state l.self.state;
  ran : Ran l.ran l.ran l.seen l.fn.self.state l.self.state;
  sound : IsSoundHand g.J.Job.key_of g.J.Job.gives l.fn.self.state → IsSoundHand g.J.Job.key_of g.J.Job.gives l.self.state;
}
