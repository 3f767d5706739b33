use Rattle.std.proofs.Common.{ap, arith, length, refl, zero-le}
use Rattle.rcu_lists.proofs.Rooms.{room-empty}
use Rattle.rcu_lists.proofs.batch.Batch.new.Goals as goal

pub invariant_of-result : goal.invariant_of-result
invariant_of-result g c = record {
  within = zero-le;
  full = rw c.new.ensures.items refl;
  inline = let n = c.new.ensures.capacity in omega arith;
  fits = let n = ap length c.new.ensures.items in let m = c.new.ensures.capacity in omega arith;
}

pub returns-clause-room : goal.returns-clause-room
returns-clause-room g c = room-empty c.new.result _ c.new.ensures.items c.new.ensures.capacity
