use Rattle.std.proofs.Common.{refl}
use Rattle.rcu_c_slots.proofs.Jobs.{job_sends, receipt_sends}
use Rattle.rcu_c_slots.proofs.closing.close_again.Goals as goal

pub returns-in-Ok-clause-closes : goal.returns-in-Ok-clause-closes
returns-in-Ok-clause-closes c = let kept = c.put_part.ensures.keeps.box in record {
  closed = c.in-Ok.closed;
  control_is = (_, kept.2, refl);
  closes = c.in-Ok.ensures.closes c.requires.owed.1;
}

pub again-requires-send-J : goal.again-requires-send-J
again-requires-send-J c κs = job_sends

pub again-requires-send-J-Receipt : goal.again-requires-send-J-Receipt
again-requires-send-J-Receipt c κs = receipt_sends
