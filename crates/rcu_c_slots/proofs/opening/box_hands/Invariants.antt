use Rattle.std.proofs.Common.{◌≡◌, ◌++◌}
use Rattle.rcu_c_slots.specs.Opens.{boxed, lent_hands}
use Rattle.rcu_c_slots.proofs.opening.box_hands.Given as goal

abbrev pub invariant-loop-part : goal.invariant-loop-part
invariant-loop-part l = boxed l.boxes.items ++ lent_hands l.opening l.part-iterator.rest.items ≡ lent_hands l.opening l.fn.parts.items
