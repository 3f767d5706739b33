use Rattle.std.proofs.Common.{◌≡◌, ◌<◌}
use Rattle.rcu_parts.specs.OneOpen.{parts_board}
use Rattle.rcu_runtime.specs.Waits.{Waits}
use Rattle.rcu_runtime.proofs.until_passed.Whole+AllParts+Processor+J+Group+J+Hand+J.turn_until_passed.Given as goal

abbrev pub invariant-loop-made : goal.invariant-loop-made
invariant-loop-made g l = record {
  waits : Waits l.moment l.barrier.counts l._made l.fn.self l.self;
  own : 0 < l._made → l.barrier.counts.n ≡ (parts_board l.fn.self).processors;
}
