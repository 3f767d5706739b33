use Rattle.std.proofs.Common.{◌≡◌, [], take}
use Rattle.rcu_c_slots.specs.Gathers.{held_in, lents}
use Rattle.rcu_c_slots.proofs.opening.are_empty.Given as goal

abbrev pub invariant-loop-place : goal.invariant-loop-place
invariant-loop-place l = lents (take l.place (held_in l.fn.slots)) ≡ []
