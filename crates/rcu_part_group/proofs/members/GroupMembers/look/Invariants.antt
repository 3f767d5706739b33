use Rattle.std.proofs.Common.{◌≡◌, ℕ, List, ◌∷◌, Option, length}
use Rattle.rcu_part_group.specs.Each.{IsGreatest}
use Rattle.rcu_part_group.specs.Groups.{LooksAt}
use Rattle.rcu_part_group.proofs.GroupLists.{Partly}
use Rattle.rcu_part_group.proofs.members.GroupMembers.look.Given as goal

abbrev pub invariant-loop-group_member : goal.invariant-loop-group_member
invariant-loop-group_member g l = record {
  wants : List (Option ℕ);
  many : length wants ≡ l.group_member-index;
  members : Partly (LooksAt l.seen) wants l.fn.self.others.items l.group_member-items;
  greatest : IsGreatest l.most (l.initial.most ∷ wants);
}
