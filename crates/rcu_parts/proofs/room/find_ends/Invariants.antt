use Rattle.std.proofs.Common.{◌≡◌, ◌≤◌, length, vec_len, vec_capacity}
use Rattle.rcu_parts.proofs.RoomFor.{FitsSoFar}
use Rattle.rcu_parts.proofs.room.find_ends.Given as goal

abbrev pub invariant-loop-processor : goal.invariant-loop-processor
invariant-loop-processor g l = record {
  fits : FitsSoFar l.processor-index l.next l.processors.items l.hands.items l.ends.items;
  long : vec_len l.ends ≡ l.processor-index;
  room : length l.processors.items ≤ vec_capacity l.ends;
}
