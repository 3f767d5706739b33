use Rattle.rcu_c_slots.proofs.Jobs.{cpu_fits, job_sends, placed_cpu_fits, receipt_sends}
use Rattle.rcu_c_slots.proofs.LentParts.{lent_as, rests_in}
use Rattle.rcu_c_slots.proofs.lent.LentProcessor.into_processor.Goals as goal

pub into_processor-requires : goal.into_processor-requires
into_processor-requires c = (job_sends, (receipt_sends, (placed_cpu_fits, (cpu_fits, rests_in c.args.self c.requires))))

pub returns : goal.returns
returns c = let l = c.args.self in let e = rests_in l c.requires in lent_as l c.requires e c.into_processor.result (c.into_processor.ensures.same e)
