use Rattle.std.proofs.Common.{is_some, ap, sym, ◌∙◌, refl}
use Rattle.rcu_c_slots.proofs.Jobs.{job_sends, placed_cpu_fits, receipt_sends}
use Rattle.rcu_c_slots.proofs.LentParts.{finishes_some, leaves_resting, none_if, some_if}
use Rattle.rcu_c_slots.proofs.lent.LentProcessor.poll.Goals as goal

pub returns-then-is_some : goal.returns-then-is_some
returns-then-is_some c = let k = some_if c.args.self.now.job (sym c.is_some.ensures ∙ c.if-is_some.true) in finishes_some c.args.self.now.job _ _ k.0 k.1 (refl, refl)
