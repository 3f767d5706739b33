use Rattle.std.proofs.Common.{is_some, ap, sym, ◌∙◌, refl}
use Rattle.rcu_c_slots.proofs.Jobs.{job_sends, placed_cpu_fits, receipt_sends}
use Rattle.rcu_c_slots.proofs.lent.LentProcessor.quiescent.Goals as goal

pub invariant_of-self : goal.invariant_of-self
invariant_of-self c = record { both = c.args.self.now.both ∙ sym (ap is_some c.quiescent.ensures.reports.same.claimed) }

pub returns : goal.returns
returns c = let e = c.quiescent.ensures in record { kept = record { same = e.reports.same; job = refl; sound = e.reports.sound }; lists = e.reports.keeps; reports = e.reports.does }

pub quiescent-requires-send-J : goal.quiescent-requires-send-J
quiescent-requires-send-J c κs = job_sends

pub quiescent-requires-send-J-Receipt : goal.quiescent-requires-send-J-Receipt
quiescent-requires-send-J-Receipt c κs = receipt_sends

pub quiescent-requires-after_bounds : goal.quiescent-requires-after_bounds
quiescent-requires-after_bounds c κs = placed_cpu_fits
