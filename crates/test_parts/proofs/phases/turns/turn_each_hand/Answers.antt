use Rattle.std.proofs.Math.ListN.{length-set}
use Rattle.std.proofs.Common.{arith, refl, ◌∙◌}
use Rattle.rcu_part_hand.proofs.HandRuns.{same_hand}
use Rattle.rcu_part_hand.specs.Hands.{IsSoundHand, SameHand}
use Rattle.test_parts.proofs.Keeping.{hands_again, hands_none}
use Rattle.test_parts.proofs.phases.turns.turn_each_hand.Goals as goal
use Rattle.rcu_lemmas.proofs.Changed.{all_changed, zip_changed}

pub loop-place-init : goal.loop-place-init
loop-place-init g c = record { keeps = hands_none g.J.Job.key_of g.J.Job.gives c.args.hands.now.items; long = refl }

pub loop-place-preserved : goal.loop-place-preserved
loop-place-preserved g c = let i = c.loop-place.invariant in let hands = c.loop-place.hands.items in
    let same = zip_changed (λ h i. SameHand h.state i.state) (λ h. same_hand h.state) hands c.loop-place.place c.index_mut.result.now c.turn.new.self (omega arith) c.index_mut.ensures.value c.turn.ensures.same in
    let sound = all_changed (λ h. IsSoundHand g.J.Job.key_of g.J.Job.gives h.state) hands c.loop-place.place c.index_mut.result.now c.turn.new.self (omega arith) c.index_mut.ensures.value c.turn.ensures.sound in record {
      keeps = hands_again g.J.Job.key_of g.J.Job.gives _ hands _ i.keeps (record { same = same; sound = sound });
      long = length-set hands c.loop-place.place c.turn.new.self ∙ i.long;
    }

pub turn-requires-send-J : goal.turn-requires-send-J
turn-requires-send-J g c κs within = assumption

pub turn-requires-after_bounds : goal.turn-requires-after_bounds
turn-requires-after_bounds g c κs within = assumption
