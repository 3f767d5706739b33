use Rattle.std.proofs.Common.{◌≡◌, length}
use Rattle.rcu_c_slots.specs.Gathers.{held_in, sections_in}
use Rattle.rcu_c_slots.specs.Opens.{boxed}
use Rattle.rcu_c_slots.proofs.Placing.{IsPutTo}
use Rattle.rcu_c_slots.proofs.opening.put_each.Given as goal

abbrev pub invariant-loop-place : goal.invariant-loop-place
invariant-loop-place l = IsPutTo l.place (length l.fn.slots) (boxed l.fn.boxes.items) (boxed l.boxes.items) (held_in l.slots)
    × (sections_in l.slots ≡ sections_in l.fn.slots)
