use Rattle.std.proofs.Common.{◌≡◌, drop}
use Rattle.rcu_world_processor.specs.Members.{is_wanting}
use Rattle.rcu_world.specs.Members.{any_in_group}
use Rattle.rcu_world.specs.Views.{all_seen}
use Rattle.rcu_world.proofs.groups.wants_member.Given as goal

abbrev pub invariant-loop-i : goal.invariant-loop-i
invariant-loop-i g l = any_in_group l.offloadable.items l.stride l.group is_wanting 0 (all_seen g.J.Job.key_of l.processors.items) ≡ any_in_group l.offloadable.items l.stride l.group is_wanting l.i (all_seen g.J.Job.key_of (drop l.i l.processors.items))
