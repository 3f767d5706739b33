use Rattle.rcu_c_slots.proofs.Jobs.{away_fits, cpu_fits, job_sends, receipt_sends}
use Rattle.rcu_c_slots.proofs.away.return_one.Goals as goal

pub come_back-requires-send-J : goal.come_back-requires-send-J
come_back-requires-send-J c κs = job_sends

pub come_back-requires-send-J-Receipt : goal.come_back-requires-send-J-Receipt
come_back-requires-send-J-Receipt c κs = receipt_sends

pub come_back-requires-after_bounds : goal.come_back-requires-after_bounds
come_back-requires-after_bounds c κs = (away_fits, cpu_fits)
