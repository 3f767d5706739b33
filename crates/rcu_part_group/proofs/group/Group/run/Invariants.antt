use Rattle.std.specs.List.{AllZip}
use Rattle.rcu_part_group.specs.Groups.{PassesOn, SameGroup, members_of}
use Rattle.rcu_part_group.proofs.group.Group.run.Given as goal

abbrev pub invariant-loop : goal.invariant-loop
invariant-loop g l = record {
  next : (goal.iterator-loop g).can_next l.iterator';
  finite : (goal.iterator-loop g).is_finite l.iterator';
  same : SameGroup l.fn.self.state l.group.state;
  places : AllZip PassesOn (members_of l.fn.self.state) (members_of l.group.state);
}
