use Rattle.std.proofs.Common.{◌≡◌, ◌/◌, ◌++◌, length}
use Rattle.std.specs.Prelude.{All}
use Rattle.rcu_part_group.specs.GroupLaw.{group_members_in}
use Rattle.rcu_parts.proofs.opening.take_members.Given as goal

abbrev pub invariant-loop-group_member : goal.invariant-loop-group_member
invariant-loop-group_member g l = record {
  order : l.fn.group_members.items ≡ group_members_in l.members ++ l.group_members.items;
  inside : All (λ m. m.cpu / l.stride ≡ l.group) (group_members_in l.members);
}

abbrev pub decreases-loop-group_member : goal.decreases-loop-group_member
decreases-loop-group_member g l = length l.group_members.items
