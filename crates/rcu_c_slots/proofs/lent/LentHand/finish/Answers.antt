use Rattle.std.proofs.Common.{◌≡◌, None, Some, is_some, ap, sym, ◌∙◌, refl}
use Rattle.rcu_c_slots.proofs.Jobs.{job_sends, placed_hand_fits, receipt_sends}
use Rattle.rcu_c_slots.proofs.LentParts.{finishes_none, finishes_some, hand_runs_in, some_if}
use Rattle.rcu_c_slots.proofs.lent.LentHand.finish.Goals as goal

pub finish-requires : goal.finish-requires
finish-requires c = (job_sends, (receipt_sends, (placed_hand_fits, hand_runs_in c.args.self.now c.in-Some.job c.in-Some.is)))

pub invariant_of-self : goal.invariant_of-self
invariant_of-self c = let s = c.args.self.now in let k = some_if s.hand.state.claimed (sym s.both ∙ ap is_some c.in-Some.is) in
    record { both = sym (ap is_some (c.finish.ensures.finishes k.0 k.1).0) }

pub returns : goal.returns
returns c = finishes_some c.args.self.now.job _ _ c.in-Some.job c.in-Some.is (refl, record { rests = refl; finishes = c.finish.ensures.finishes; sound = c.finish.ensures.sound })

pub returns-in_default : goal.returns-in_default
returns-in_default c = finishes_none c.args.self.now.job _ _ c.in_default.not-Some (refl, refl)
