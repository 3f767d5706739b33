use Rattle.std.proofs.Common.{ap, refl, subst, sym}
use Rattle.std.specs.declared.result.Result.TheVariants.{Err, Ok}
use Rattle.rcu_c_slots.specs.Shows.{ShowsLeft}
use Rattle.rcu_c_slots.proofs.Jobs.{job_sends, placed_cpu_fits, receipt_sends}
use Rattle.rcu_c_slots.proofs.part.Part.left.Goals as goal

pub returns-in-Processor : goal.returns-in-Processor
returns-in-Processor c = subst (λ part. ShowsLeft (Ok c.left.result) part) (sym c.in-Processor.is) (c.left.result, refl, c.left.ensures.left)

pub left-requires-send-J : goal.left-requires-send-J
left-requires-send-J c κs = job_sends

pub left-requires-send-J-Receipt : goal.left-requires-send-J-Receipt
left-requires-send-J-Receipt c κs = receipt_sends

pub left-requires-after_bounds : goal.left-requires-after_bounds
left-requires-after_bounds c κs = placed_cpu_fits
