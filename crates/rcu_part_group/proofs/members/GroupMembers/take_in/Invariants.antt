use Rattle.rcu_part_group.specs.Groups.{TakesFrom}
use Rattle.rcu_part_group.proofs.GroupLists.{SumsSoFar}
use Rattle.rcu_part_group.proofs.members.GroupMembers.take_in.Given as goal

abbrev pub invariant-loop-group_member : goal.invariant-loop-group_member
invariant-loop-group_member g l = SumsSoFar TakesFrom l.took l.group_member-index l.fn.self.others.items l.group_member-items
