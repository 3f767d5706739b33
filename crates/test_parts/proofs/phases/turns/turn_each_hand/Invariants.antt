use Rattle.std.proofs.Common.{◌≡◌, length}
use Rattle.test_parts.specs.Kept.{HandsKeep}
use Rattle.test_parts.proofs.phases.turns.turn_each_hand.Given as goal

abbrev pub invariant-loop-place : goal.invariant-loop-place
invariant-loop-place g l = record {
  keeps : HandsKeep g.J.Job.key_of g.J.Job.gives l.fn.hands.items l.hands.items;
  long : length l.hands.items ≡ length l.fn.hands.items;
}
