use Rattle.rcu_part_hand.specs.Hands.{AddsRecords, IsSoundHand, SameHand}
use Rattle.rcu_part_hand.proofs.hand.Hand.run.Given as goal

abbrev pub invariant-loop : goal.invariant-loop
invariant-loop g l = record {
  next : (goal.iterator-loop g).can_next l.iterator';
  finite : (goal.iterator-loop g).is_finite l.iterator';
  same : SameHand l.fn.self.state l.hand.state;
  records : AddsRecords l.fn.self.state l.hand.state;
  sound : IsSoundHand g.J.Job.key_of g.J.Job.gives l.fn.self.state → IsSoundHand g.J.Job.key_of g.J.Job.gives l.hand.state;
}
