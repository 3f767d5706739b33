use Rattle.std.proofs.Common.{◌≡◌, ◌+◌, ◌≤◌, length, vec_len, vec_capacity}
use Rattle.std.specs.VecDeque.{deque_len, deque_capacity}
use Rattle.std.specs.Arc.{arc_value}
use Rattle.std.specs.List.{AllZip, range_with_len}
use Rattle.rcu_board.specs.Opened.{InOrder, IsNewProcessor}
use Rattle.rcu_parts.specs.Openings.{AreFronts, IsFirstProcessor}
use Rattle.rcu_parts.proofs.opening.open_processors.Given as goal

abbrev pub invariant-loop-seat : goal.invariant-loop-seat
invariant-loop-seat g l = record {
  seats : InOrder (IsNewProcessor (arc_value l.board)) (length l.processors.items) l.seat-iterator.rest.items;
  many : length l.processors.items + length l.seat-iterator.rest.items ≡ (arc_value l.board).processors;
  processors : AllZip (IsFirstProcessor l.shape l.kept (arc_value l.board)) (range_with_len 0 (length l.processors.items)) l.processors.items;
  fronts : AreFronts l.processors.items l.fronts.items;
  for_processors : vec_len l.processors + length l.seat-iterator.rest.items ≤ vec_capacity l.processors;
  for_fronts : deque_len l.fronts + length l.seat-iterator.rest.items ≤ deque_capacity l.fronts;
}
