use Rattle.rcu_part_group.specs.Groups.{GivesTo}
use Rattle.rcu_part_group.proofs.GroupLists.{SumsSoFar}
use Rattle.rcu_part_group.proofs.members.GroupMembers.give.Given as goal

abbrev pub invariant-loop-group_member : goal.invariant-loop-group_member
invariant-loop-group_member g l = SumsSoFar (GivesTo l.blimit) l.gave l.group_member-index l.fn.self.others.items l.group_member-items
