use Rattle.std.proofs.Common.{arith, sym, ap, drop, length, ◌∙◌}
use Rattle.std.specs.Mem.{FitsInMemory}
use Rattle.rcu_lists.specs.Filled.{filled}
use Rattle.rcu_lists.specs.Parcels.{parcel_items}
use Rattle.rcu_lists.proofs.Sizes.{in_first, in_places}
use Rattle.rcu_lists.specs.contracts.batch.Batch as row
use denote.Param.{param}
use Rattle.rcu_lists.proofs.batch.Batch.load.Goals as goal

pub free_places-requires : goal.free_places-requires
free_places-requires g c = assumption

pub add-requires : goal.add-requires
add-requires g c = (assumption, let room = c.free_places.ensures.inline (c.free_places.ensures.items ∙ c.requires.none) in omega (arith, room))

pub from_vec-requires : goal.from_vec-requires
from_vec-requires g c = let h : FitsInMemory (row.the_row (param 0 g.row.J)) = assumption in in_first _ _ _ _ _ _ _ h

pub invariant_of-t-10 : goal.invariant_of-t-10
invariant_of-t-10 g c = let p = c.in-Many.field-0 in let same = c.from_vec.ensures.items in let wide = c.from_vec.ensures.capacity in record {
  within = rw same p.within;
  full = rw same p.full;
  inline = omega arith;
  fits = let n = ap length same in omega (arith, p.slots.ok.0, p.slots.ok.1);
}

pub array_drop-self-requires : goal.array_drop-self-requires
array_drop-self-requires g c = let h : FitsInMemory (row.the_row (param 0 g.row.J)) = assumption in in_places _ _ _ _ _ _ _ _ _ _ _ _ _ _ _ _ _ _ _ _ h

pub returns-in-Many : goal.returns-in-Many
returns-in-Many g c = record { items = ap (λ l. filled (drop c.in-Many.field-0.next l)) c.from_vec.ensures.items ∙ ap parcel_items (sym c.in-Many.is) }
