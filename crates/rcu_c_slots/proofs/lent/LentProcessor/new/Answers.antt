use Rattle.std.proofs.Common.{is_some, ap, refl, sym}
use Rattle.rcu_c_slots.proofs.Jobs.{cpu_fits, job_sends, placed_cpu_fits, receipt_sends}
use Rattle.rcu_c_slots.proofs.LentParts.{lent_as}
use Rattle.rcu_c_slots.proofs.lent.LentProcessor.new.Goals as goal

pub returns : goal.returns
returns c = lent_as _ refl c.new.ensures.rests c.args.processor (c.new.ensures.same c.new.ensures.rests)

pub invariant_of-result : goal.invariant_of-result
invariant_of-result c = record { both = sym (ap is_some c.new.ensures.rests) }
