use Rattle.std.proofs.Common.{ap, refl, subst, sym}
use Rattle.std.specs.declared.result.Result.TheVariants.{Err, Ok}
use Rattle.rcu_c_slots.specs.Shows.{ShowsAccepted}
use Rattle.rcu_c_slots.proofs.Jobs.{job_sends, placed_cpu_fits, receipt_sends}
use Rattle.rcu_c_slots.proofs.part.Part.accepted.Goals as goal

pub returns-in-Processor : goal.returns-in-Processor
returns-in-Processor c = subst (λ part. ShowsAccepted (Ok c.accepted.result) part) (sym c.in-Processor.is) (ap Ok c.accepted.ensures)

pub accepted-requires-send-J : goal.accepted-requires-send-J
accepted-requires-send-J c κs = job_sends

pub accepted-requires-send-J-Receipt : goal.accepted-requires-send-J-Receipt
accepted-requires-send-J-Receipt c κs = receipt_sends

pub accepted-requires-after_bounds : goal.accepted-requires-after_bounds
accepted-requires-after_bounds c κs = placed_cpu_fits
