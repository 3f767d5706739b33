use Rattle.std.proofs.Common.{ap, refl, subst, sym}
use Rattle.std.specs.declared.result.Result.TheVariants.{Err, Ok}
use Rattle.rcu_c_slots.specs.Shows.{ShowsLists}
use Rattle.rcu_c_slots.proofs.Jobs.{job_sends, placed_cpu_fits, receipt_sends}
use Rattle.rcu_c_slots.proofs.part.Part.lists.Goals as goal

pub returns-in-Processor : goal.returns-in-Processor
returns-in-Processor c = subst (λ part. ShowsLists (Ok c.lists.result) part) (sym c.in-Processor.is) (ap Ok c.lists.ensures)

pub lists-requires-send-J : goal.lists-requires-send-J
lists-requires-send-J c κs = job_sends

pub lists-requires-send-J-Receipt : goal.lists-requires-send-J-Receipt
lists-requires-send-J-Receipt c κs = receipt_sends

pub lists-requires-after_bounds : goal.lists-requires-after_bounds
lists-requires-after_bounds c κs = placed_cpu_fits
