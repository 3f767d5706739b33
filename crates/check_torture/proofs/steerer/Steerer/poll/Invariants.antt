use Rattle.std.proofs.Common.{◌≡◌}
use Rattle.rcu_part_control.specs.Parts.{control_board}
use Rattle.check_torture.specs.Kept.{SteersOn}
use Rattle.check_torture.proofs.steerer.Steerer.poll.Given as goal

abbrev pub invariant-loop : goal.invariant-loop
invariant-loop g l = record {
  steers : SteersOn l.fn.self l.self;
  ours : (control_board l.self.control).processors ≡ l.barrier.counts.n;
}
