use Rattle.std.proofs.Common.{drop, ap, refl}
use Rattle.std.specs.Mem.{FitsInMemory}
use Rattle.rcu_lists.specs.Filled.{filled}
use Rattle.rcu_lists.proofs.Rooms.{same-batch}
use Rattle.rcu_lists.proofs.Sizes.{in_first}
use Rattle.rcu_lists.specs.contracts.batch.Batch as row
use denote.Param.{param}
use Rattle.rcu_lists.proofs.batch.Batch.into_places.Goals as goal

pub into_vec-requires : goal.into_vec-requires
into_vec-requires g c = let h : FitsInMemory (row.the_row (param 0 g.row.J)) = assumption in in_first _ _ _ _ _ _ _ h

pub invariant_of-result : goal.invariant_of-result
invariant_of-result g c = record { within = rw c.in-Ok.ensures.ok c.args.self.within; full = rw c.in-Ok.ensures.ok c.args.self.full }

pub invariant_of-result-in-Err : goal.invariant_of-result-in-Err
invariant_of-result-in-Err g c = let b = c.args.self in let same = c.in-Err.ensures.value_returned in record {
  within = rw same b.within;
  full = rw same b.full;
  inline = rw same b.inline;
  fits = rw same b.fits;
}

pub returns-in-Ok-clause-packed : goal.returns-in-Ok-clause-packed
returns-in-Ok-clause-packed g c = ap (λ l. filled (drop c.args.self.next l)) c.in-Ok.ensures.ok

pub returns-in-Ok-clause-heap : goal.returns-in-Ok-clause-heap
returns-in-Ok-clause-heap g c = λ _. refl

pub returns-in-Err-clause-packed : goal.returns-in-Err-clause-packed
returns-in-Err-clause-packed g c = same-batch c.args.self c.in-Err.field-0.value c.in-Err.ensures.value_returned _ _ _ _

pub returns-in-Err-clause-heap : goal.returns-in-Err-clause-heap
returns-in-Err-clause-heap g c = c.in-Err.ensures.succeeds
