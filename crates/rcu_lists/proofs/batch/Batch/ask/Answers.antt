use Rattle.std.proofs.Common.{arith}
use Rattle.rcu_lists.proofs.Outcomes.{on_err_so}
use Rattle.rcu_lists.proofs.Rooms.{room-kept, same-batch}
use Rattle.rcu_lists.proofs.batch.Batch.ask.Goals as goal

pub invariant_of-self : goal.invariant_of-self
invariant_of-self g c = let b = c.args.self.now in record {
  within = rw c.reserve.ensures.items b.within;
  full = rw c.reserve.ensures.items b.full;
  inline = let more = c.reserve.ensures.capacity in let places = b.inline in omega arith;
  fits = room-kept b.slots c.reserve.new.self c.reserve.ensures.items c.reserve.ensures.capacity 0 b.fits;
}

pub returns-clause-room : goal.returns-clause-room
returns-clause-room g c = room-kept c.args.self.now.slots c.reserve.new.self c.reserve.ensures.items c.reserve.ensures.capacity

pub returns-clause-refused : goal.returns-clause-refused
returns-clause-refused g c = on_err_so c.reserve.result (λ e. same-batch c.args.self.now c.reserve.new.self e _ _ _ _) c.reserve.ensures.err
