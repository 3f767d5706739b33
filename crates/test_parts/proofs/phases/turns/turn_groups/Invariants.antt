use Rattle.test_parts.specs.Kept.{GroupsKeep}
use Rattle.test_parts.proofs.phases.turns.turn_groups.Given as goal

abbrev pub invariant-loop : goal.invariant-loop
invariant-loop g l = GroupsKeep l.fn.groups.items l.groups.items
