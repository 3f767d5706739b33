use Rattle.std.proofs.Common.{refl}
use Rattle.rcu_lists.proofs.Outcomes.{if_ok_never}
use Rattle.rcu_runtime_threads.proofs.crew.Reserved.new.Goals as goal

pub returns-in_err-with_capacity : goal.returns-in_err-with_capacity
returns-in_err-with_capacity g c = if_ok_never _ _ c.from_residual.ensures

pub returns-in_err-with_capacity-2 : goal.returns-in_err-with_capacity-2
returns-in_err-with_capacity-2 g c = if_ok_never _ _ c.from_residual-in_err-with_capacity-2.ensures

pub invariant_of-result : goal.invariant_of-result
invariant_of-result g c = record { empty = (c.in_ok-with_capacity.ensures.items, c.in_ok-with_capacity-2.ensures.items); fits = (c.in_ok-with_capacity.ensures.capacity, c.in_ok-with_capacity-2.ensures.capacity) }

pub returns : goal.returns
returns g c = refl
