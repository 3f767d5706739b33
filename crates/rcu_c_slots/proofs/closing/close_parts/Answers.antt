use Rattle.std.proofs.Common.{refl}
use Rattle.rcu_c_slots.proofs.Jobs.{job_sends, receipt_sends}
use Rattle.rcu_c_slots.proofs.closing.close_parts.Goals as goal

pub returns-in-Ok-clause-closes : goal.returns-in-Ok-clause-closes
returns-in-Ok-clause-closes c = let kept = c.put_part.ensures.keeps.box in record {
  closed = c.in-Ok.closed;
  control_is = (_, kept.2, refl);
  closes = c.in-Ok.ensures.closes c.requires.owed.1;
}

pub close-requires-send-J : goal.close-requires-send-J
close-requires-send-J c κs = job_sends

pub close-requires-send-J-Receipt : goal.close-requires-send-J-Receipt
close-requires-send-J-Receipt c κs = receipt_sends
