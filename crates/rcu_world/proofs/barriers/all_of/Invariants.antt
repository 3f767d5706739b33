use Rattle.std.proofs.Common.{◌≡◌, drop}
use Rattle.rcu_world_law.specs.Lists.{all_of}
use Rattle.rcu_world.proofs.barriers.all_of.Given as goal

abbrev pub invariant-loop-b : goal.invariant-loop-b
invariant-loop-b l = all_of l.seen.items ≡ all_of (drop l.b-index l.seen.items)
