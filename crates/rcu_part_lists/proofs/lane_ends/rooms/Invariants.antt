use Rattle.std.proofs.Common.{◌≡◌, length}
use Rattle.rcu_part_lists.proofs.lane_ends.rooms.Given as goal

abbrev pub invariant-loop : goal.invariant-loop
invariant-loop g l = length l.rooms.items ≡ l.counter
