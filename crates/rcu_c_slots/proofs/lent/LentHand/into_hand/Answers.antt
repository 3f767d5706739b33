use Rattle.rcu_c_slots.proofs.Jobs.{hand_fits, job_sends, placed_hand_fits, receipt_sends}
use Rattle.rcu_c_slots.proofs.LentParts.{hand_rests_in, lent_hand_as}
use Rattle.rcu_c_slots.proofs.lent.LentHand.into_hand.Goals as goal

pub into_hand-requires : goal.into_hand-requires
into_hand-requires c = (job_sends, (receipt_sends, (placed_hand_fits, (hand_fits, hand_rests_in c.args.self c.requires))))

pub returns : goal.returns
returns c = let l = c.args.self in let e = hand_rests_in l c.requires in lent_hand_as l c.requires e c.into_hand.result (c.into_hand.ensures.same e)
