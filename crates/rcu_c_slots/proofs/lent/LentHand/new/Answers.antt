use Rattle.std.proofs.Common.{is_some, ap, refl, sym}
use Rattle.rcu_c_slots.proofs.Jobs.{hand_fits, job_sends, placed_hand_fits, receipt_sends}
use Rattle.rcu_c_slots.proofs.LentParts.{lent_hand_as}
use Rattle.rcu_c_slots.proofs.lent.LentHand.new.Goals as goal

pub returns : goal.returns
returns c = lent_hand_as _ refl c.new.ensures.rests c.args.hand (c.new.ensures.same c.new.ensures.rests)

pub invariant_of-result : goal.invariant_of-result
invariant_of-result c = record { both = sym (ap is_some c.new.ensures.rests) }
