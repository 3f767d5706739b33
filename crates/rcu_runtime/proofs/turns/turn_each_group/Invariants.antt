use Rattle.rcu_runtime.specs.Passing.{PassesGroup}
use Rattle.rcu_runtime.proofs.Changing.{FirstsOf}
use Rattle.rcu_runtime.proofs.turns.turn_each_group.Given as goal

abbrev pub invariant-loop-group : goal.invariant-loop-group
invariant-loop-group g l = FirstsOf PassesGroup l.group-index l.fn.groups.items l.group-items
