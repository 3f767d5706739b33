use Rattle.std.proofs.Common.{◌≢◌, take}
use Rattle.std.specs.List.{All}
use Rattle.rcu_part_group.proofs.members.GroupMembers.lists.Given as goal

abbrev pub invariant-loop-group_member : goal.invariant-loop-group_member
invariant-loop-group_member g l = All (λ m. m.cpu ≢ l.p) (take l.group_member-index l.self.others.items)
