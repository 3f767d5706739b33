use Rattle.std.proofs.Common.{ap, refl}
use Rattle.rcu_c_slots.specs.declared.part.Part.TheVariants as part
use Rattle.rcu_c_slots.proofs.Jobs.{away_fits, cpu_fits, job_sends, receipt_sends}
use Rattle.rcu_c_slots.proofs.away.leave_one.Goals as goal

pub returns-in-Ok : goal.returns-in-Ok
returns-in-Ok c = let e = c.in-Ok.ensures in (c.in-Ok.away, refl, record { same = e.same; leaves = e.away; empty = e.empty; keeps = e.keeps; sound = λ s. (e.sound s).0 })

pub returns-in-Err : goal.returns-in-Err
returns-in-Err c = let e = c.in-Err.ensures in (refl, (c.in-Err.processor, ap part.Processor c.new.ensures, record { stays = e.stays; sound = λ s. (e.sound s).1 }))

pub leave-requires-send-J : goal.leave-requires-send-J
leave-requires-send-J c κs = job_sends

pub leave-requires-send-J-Receipt : goal.leave-requires-send-J-Receipt
leave-requires-send-J-Receipt c κs = receipt_sends

pub leave-requires-after_bounds : goal.leave-requires-after_bounds
leave-requires-after_bounds c κs = (cpu_fits, away_fits)
