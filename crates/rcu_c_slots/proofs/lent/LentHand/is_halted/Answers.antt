use Rattle.std.proofs.Common.{is_some, ap, sym, ◌∙◌, refl}
use Rattle.rcu_c_slots.proofs.Jobs.{job_sends, placed_hand_fits, receipt_sends}
use Rattle.rcu_c_slots.proofs.LentParts.{finishes_some, leaves_resting, none_if, hand_rests_in, some_if}
use Rattle.rcu_c_slots.proofs.lent.LentHand.is_halted.Goals as goal

pub returns-then-is_some : goal.returns-then-is_some
returns-then-is_some c = let k = some_if c.args.self.now.job (sym c.is_some.ensures ∙ c.if-is_some.true) in finishes_some c.args.self.now.job _ _ k.0 k.1 (refl, refl)

pub is_halted-requires : goal.is_halted-requires
is_halted-requires c = (job_sends, (receipt_sends, (placed_hand_fits, hand_rests_in c.args.self.now (none_if c.args.self.now.job (sym c.is_some.ensures ∙ c.if-is_some.false)))))

pub invariant_of-self : goal.invariant_of-self
invariant_of-self c = let s = c.args.self.now in let e = hand_rests_in s (none_if s.job (sym c.is_some.ensures ∙ c.if-is_some.false)) in record { both = s.both ∙ (ap is_some e ∙ sym (ap is_some (c.is_halted.ensures.reads.does e).0)) }

pub returns : goal.returns
returns c = let e = c.is_halted.ensures in leaves_resting c.args.self.now.job _ _ (none_if c.args.self.now.job (sym c.is_some.ensures ∙ c.if-is_some.false)) (c.is_halted.result, refl, record { job = refl; reads = e.reads.does; sound = e.reads.sound })
