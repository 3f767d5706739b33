use Rattle.std.proofs.Common.{is_some, ap, sym, ◌∙◌, refl}
use Rattle.rcu_c_slots.proofs.Jobs.{job_sends, placed_cpu_fits, receipt_sends}
use Rattle.rcu_c_slots.proofs.LentParts.{finishes_some, leaves_resting, none_if, rests_in, some_if}
use Rattle.rcu_c_slots.proofs.lent.LentProcessor.is_halted.Goals as goal

pub returns-then-is_some : goal.returns-then-is_some
returns-then-is_some c = let k = some_if c.args.self.now.job (sym c.is_some.ensures ∙ c.if-is_some.true) in finishes_some c.args.self.now.job _ _ k.0 k.1 (refl, refl)

pub is_halted-requires : goal.is_halted-requires
is_halted-requires c = (job_sends, (receipt_sends, (placed_cpu_fits, rests_in c.args.self.now (none_if c.args.self.now.job (sym c.is_some.ensures ∙ c.if-is_some.false)))))

pub invariant_of-self : goal.invariant_of-self
invariant_of-self c = record { both = c.args.self.now.both ∙ sym (ap is_some c.is_halted.ensures.reads.same.claimed) }

pub returns : goal.returns
returns c = let e = c.is_halted.ensures in leaves_resting c.args.self.now.job _ _ (none_if c.args.self.now.job (sym c.is_some.ensures ∙ c.if-is_some.false)) (c.is_halted.result, refl, record { kept = record { same = e.reads.same; job = refl; sound = e.reads.sound }; lists = e.reads.keeps; reads = e.reads.does })
