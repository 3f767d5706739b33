use Rattle.std.proofs.Common.{◌≡◌, ◌+◌, ◌≤◌, ◌++◌, [], length, map, vec_len, vec_capacity, All}
use Rattle.rcu_board.specs.Seats.{GatheredAt, SameGathered, gathered_view}
use Rattle.rcu_part_close.specs.Gathered.{gather}
use Rattle.rcu_part_group.specs.Groups.{group_board, group_view}
use Rattle.rcu_parts.specs.OneOpen.{members_in}
use Rattle.rcu_parts.proofs.seats.gather_groups.Given as goal

abbrev pub invariant-loop-group : goal.invariant-loop-group
invariant-loop-group g l = record {
  at : GatheredAt l.board l.all;
  same : SameGathered l.fn.all l.all;
  rests : (gathered_view l.all).running ≡ [];
  view : gathered_view l.all ≡ gather (gathered_view l.fn.all) (map (λ g. group_view g.state) l.yielded);
  boards : All (λ g. group_board g.state ≡ l.board) l.group-iterator.rest.items;
  members : l.members.items ≡ members_in l.yielded;
  all : l.yielded ++ l.group-iterator.rest.items ≡ l.fn.groups.items;
  room : vec_len l.members + length (members_in l.group-iterator.rest.items) ≤ vec_capacity l.members;
}
