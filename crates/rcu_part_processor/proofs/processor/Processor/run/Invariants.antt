use Rattle.std.proofs.Common.{◌≡◌}
use Rattle.rcu_part_processor.specs.Processors.{AcceptedStays, AddsRecords, IsSound, SameProcessor}
use Rattle.rcu_part_processor.proofs.processor.Processor.run.Given as goal

abbrev pub invariant-loop : goal.invariant-loop
invariant-loop g l = record {
  next : (goal.iterator-loop g).can_next l.iterator';
  finite : (goal.iterator-loop g).is_finite l.iterator';
  same : SameProcessor l.fn.self.state l.processor.state;
  count : l.processor.state.accepted ≡ l.fn.self.state.accepted;
  accepted : AcceptedStays l.fn.self.state l.processor.state;
  records : AddsRecords l.fn.self.state l.processor.state;
  sound : IsSound g.J.Job.key_of g.J.Job.gives l.fn.self.state → IsSound g.J.Job.key_of g.J.Job.gives l.processor.state;
}
