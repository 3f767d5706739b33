use Rattle.std.proofs.Common.{◌≡◌, ℕ, ◌+◌, ◌≤◌, ◌++◌, List, length, vec_len, vec_capacity}
use Rattle.std.specs.Prelude.{All}
use Rattle.std.specs.Arc.{arc_value}
use Rattle.std.specs.List.{AllZip}
use Rattle.rcu_board.specs.Opened.{IsNewGroup, SeatForEach, has_offloadable, numbers_where}
use Rattle.rcu_part_group.specs.GroupLaw.{cpus_of}
use Rattle.rcu_part_group.specs.Groups.{IsEmptyGroupMember}
use Rattle.rcu_parts.specs.OneOpen.{members_in}
use Rattle.rcu_parts.specs.Openings.{IsFirstGroup}
use Rattle.rcu_parts.proofs.Splitting.{AreGrouped}
use Rattle.rcu_parts.proofs.opening.open_groups.Given as goal

abbrev pub invariant-loop-seat : goal.invariant-loop-seat
invariant-loop-seat g l = record {
  done : List ℕ;
  left : List ℕ;
  all : done ++ left ≡ numbers_where (has_offloadable (arc_value l.board).offloadable l.shape.stride (arc_value l.board).processors) 0 (arc_value l.board).processors;
  seats : SeatForEach (IsNewGroup (arc_value l.board)) left l.seat-iterator.rest.items;
  grouped : AreGrouped (arc_value l.board).offloadable l.shape.stride (arc_value l.board).processors left (cpus_of l.group_members.items);
  members : members_in l.groups.items ++ l.group_members.items ≡ l.fn.group_members.items;
  empty : All IsEmptyGroupMember l.group_members.items;
  groups : AllZip (IsFirstGroup l.shape (arc_value l.board)) done l.groups.items;
  room : vec_len l.groups + length l.seat-iterator.rest.items ≤ vec_capacity l.groups;
}
