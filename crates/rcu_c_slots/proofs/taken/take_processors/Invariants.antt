use Rattle.std.proofs.Common.{◌≡◌}
use Rattle.std.specs.Vec.{vec_capacity}
use Rattle.rcu_c_slots.specs.Processors.{lent_processor}
use Rattle.rcu_c_slots.specs.Gathers.{held_in, sections_in}
use Rattle.rcu_c_slots.specs.declared.part.Part.TheVariants as part
use Rattle.rcu_c_slots.proofs.Helds.{IsTakenTo}
use Rattle.rcu_c_slots.proofs.taken.take_processors.Given as goal

abbrev pub invariant-loop-place : goal.invariant-loop-place
invariant-loop-place l = IsTakenTo (λ x. part.Processor (lent_processor x)) l.place (held_in l.fn.slots) (held_in l.slots) l.out.items × (vec_capacity l.out ≡ vec_capacity l.fn.out) × (sections_in l.slots ≡ sections_in l.fn.slots)
