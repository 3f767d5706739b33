use Rattle.rcu_lists.proofs.Outcomes.{if_ok_never}
use Rattle.rcu_runtime_threads.proofs.pairs.Halves.with_room.Goals as goal

pub returns-in_err-with_capacity : goal.returns-in_err-with_capacity
returns-in_err-with_capacity g c = if_ok_never _ _ c.from_residual.ensures

pub returns-in_err-with_capacity-2 : goal.returns-in_err-with_capacity-2
returns-in_err-with_capacity-2 g c = if_ok_never _ _ c.from_residual-in_err-with_capacity-2.ensures

pub returns-in_err-with_capacity-3 : goal.returns-in_err-with_capacity-3
returns-in_err-with_capacity-3 g c = if_ok_never _ _ c.from_residual-in_err-with_capacity-3.ensures

pub returns : goal.returns
returns g c = record { processors = (c.in_ok-with_capacity.ensures.items, c.in_ok-with_capacity.ensures.capacity); workers = (c.in_ok-with_capacity-2.ensures.items, c.in_ok-with_capacity-2.ensures.capacity); ends = (c.in_ok-with_capacity-3.ensures.items, c.in_ok-with_capacity-3.ensures.capacity) }
