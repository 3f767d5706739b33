use Rattle.std.proofs.Common.{◌≡◌, drop}
use Rattle.rcu_world.specs.Members.{most_in_group}
use Rattle.rcu_world.specs.Views.{all_seen}
use Rattle.rcu_world.proofs.groups.most_wanted.Given as goal

abbrev pub invariant-loop-i : goal.invariant-loop-i
invariant-loop-i g l = most_in_group l.offloadable.items l.stride l.group l.needed 0 (all_seen g.J.Job.key_of l.processors.items) ≡ most_in_group l.offloadable.items l.stride l.group l.most l.i (all_seen g.J.Job.key_of (drop l.i l.processors.items))
