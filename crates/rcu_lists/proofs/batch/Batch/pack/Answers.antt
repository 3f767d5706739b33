use Rattle.std.proofs.Common.{refl}
use Rattle.rcu_lists.proofs.batch.Batch.pack.Goals as goal

pub into_places-requires : goal.into_places-requires
into_places-requires g c = assumption

pub returns-in-Ok-clause-packed : goal.returns-in-Ok-clause-packed
returns-in-Ok-clause-packed g c = c.in-Ok.ensures.packed

pub returns-in-Ok-clause-heap : goal.returns-in-Ok-clause-heap
returns-in-Ok-clause-heap g c = λ _. refl

pub returns-in-Err-clause-packed : goal.returns-in-Err-clause-packed
returns-in-Err-clause-packed g c = c.in-Err.ensures.packed

pub returns-in-Err-clause-heap : goal.returns-in-Err-clause-heap
returns-in-Err-clause-heap g c = c.in-Err.ensures.heap
