use Rattle.std.proofs.Common.{inr}
use Rattle.rcu_c_slots.proofs.lent.LentProcessor.next.Goals as goal

pub returns-in-Ok : goal.returns-in-Ok
returns-in-Ok c = record { begins = inr (c.finish.new.self, c.in-Ok.ensures, c.begin.ensures.begins); none = c.begin.ensures.none }
