use Rattle.std.proofs.Common.{◌≡◌, ℕ, ◌+◌, ◌≤◌, ◌++◌, List, [], length, vec_len, vec_capacity}
use Rattle.std.specs.VecDeque.{deque_len, deque_capacity}
use Rattle.std.specs.Prelude.{All}
use Rattle.std.specs.Arc.{arc_value}
use Rattle.std.specs.List.{AllZip}
use Rattle.rcu_board.specs.Opened.{IsNewHand, SeatForEach, is_offloadable, numbers_where}
use Rattle.rcu_lanes.specs.Ends.{items_drawn}
use Rattle.rcu_part_group.specs.GroupLaw.{cpus_of}
use Rattle.rcu_part_group.specs.Groups.{IsEmptyGroupMember}
use Rattle.rcu_parts.specs.OneOpen.{HasHand}
use Rattle.rcu_parts.specs.Openings.{IsFirstHand, fronts_of}
use Rattle.rcu_parts.proofs.opening.open_hands.Given as goal

abbrev pub invariant-loop-seat : goal.invariant-loop-seat
invariant-loop-seat g l = record {
  left : List ℕ;
  all : cpus_of l.group_members.items ++ left ≡ numbers_where (is_offloadable (arc_value l.board).offloadable) 0 (arc_value l.board).processors;
  seats : SeatForEach (IsNewHand (arc_value l.board)) left l.seat-iterator.rest.items;
  many : length l.fronts.items ≡ length l.seat-iterator.rest.items;
  drawn : All (λ front. items_drawn front ≡ []) l.fronts.items;
  fronts : fronts_of l.group_members.items ++ l.fronts.items ≡ l.fn.fronts.items;
  empty : All IsEmptyGroupMember l.group_members.items;
  hands : AllZip (IsFirstHand l.shape l.kept (arc_value l.board)) (cpus_of l.group_members.items) l.hands.items;
  lanes : AllZip HasHand l.group_members.items l.hands.items;
  for_members : deque_len l.group_members + length l.seat-iterator.rest.items ≤ deque_capacity l.group_members;
  for_hands : vec_len l.hands + length l.seat-iterator.rest.items ≤ vec_capacity l.hands;
}
