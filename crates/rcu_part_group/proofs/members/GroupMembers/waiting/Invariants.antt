use Rattle.std.proofs.Common.{◌≡◌, ◌*◌, ◌≤◌, take, sum_by}
use Rattle.rcu_part_group.specs.Groups.{waiting_of}
use Rattle.rcu_part_group.proofs.members.GroupMembers.waiting.Given as goal

abbrev pub invariant-loop-group_member : goal.invariant-loop-group_member
invariant-loop-group_member g l = record {
  so_far : l.waiting ≡ sum_by waiting_of (take l.group_member-index l.self.others.items);
  small : l.waiting ≤ l.group_member-index * 9007199254740992;
}
