use Rattle.std.proofs.Common.{◌≡◌}
use Rattle.rcu_board.specs.Views.{sight}
use Rattle.rcu_part_processor.specs.Processors.{IsSound, SameProcessor, lists_of, view_of}
use Rattle.rcu_part_processor.specs.Ticks.{RanDone}
use Rattle.rcu_part_processor.proofs.processor.Processor.run_done.Given as goal

abbrev pub invariant-loop-ran : goal.invariant-loop-ran
invariant-loop-ran g l = record {
  same : SameProcessor l.fn.self.state l.self.state;
  ran : RanDone l.ran l.ran l.seen l.fn.self.state l.self.state;
  seen : (sight (view_of l.self.state) ≡ l.seen) × ((lists_of l.self.state).advanced ≡ l.seen);
  accepted : l.self.state.accepted ≡ l.fn.self.state.accepted;
  sound : IsSound g.J.Job.key_of g.J.Job.gives l.fn.self.state → IsSound g.J.Job.key_of g.J.Job.gives l.self.state;
}
