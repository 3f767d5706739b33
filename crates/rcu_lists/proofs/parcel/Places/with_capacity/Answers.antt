use Rattle.rcu_lists.specs.Filled.{filled}
use Rattle.std.proofs.Common.{ap, arith, drop, length, refl, zero-le}
use Rattle.rcu_lists.proofs.Outcomes.{if_ok_never}
use Rattle.rcu_lists.proofs.parcel.Places.with_capacity.Goals as goal

pub returns-in_err-with_capacity-clause-none : goal.returns-in_err-with_capacity-clause-none
returns-in_err-with_capacity-clause-none g c = if_ok_never c.from_residual.result _ c.from_residual.ensures

pub returns-in_err-with_capacity-clause-room : goal.returns-in_err-with_capacity-clause-room
returns-in_err-with_capacity-clause-room g c = if_ok_never c.from_residual.result _ c.from_residual.ensures

pub invariant_of-result : goal.invariant_of-result
invariant_of-result g c = record { within = zero-le; full = rw c.in_ok-with_capacity.ensures.items refl }

pub returns-clause-none : goal.returns-clause-none
returns-clause-none g c = ap (λ xs. filled (drop 0 xs)) c.in_ok-with_capacity.ensures.items

pub returns-clause-room : goal.returns-clause-room
returns-clause-room g c = let none = ap length c.in_ok-with_capacity.ensures.items in omega (arith, none, c.in_ok-with_capacity.ensures.capacity)
