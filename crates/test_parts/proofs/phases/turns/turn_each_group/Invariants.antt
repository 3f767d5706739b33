use Rattle.std.proofs.Common.{◌≡◌, length}
use Rattle.test_parts.specs.Kept.{GroupsKeep}
use Rattle.test_parts.proofs.phases.turns.turn_each_group.Given as goal

abbrev pub invariant-loop-place : goal.invariant-loop-place
invariant-loop-place g l = record {
  same : GroupsKeep l.fn.groups.items l.groups.items;
  long : length l.groups.items ≡ length l.fn.groups.items;
}
