use Rattle.test_parts.proofs.Keeping.{hands_again, hands_none}
use Rattle.test_parts.proofs.phases.turns.turn_hands.Goals as goal

pub loop-init : goal.loop-init
loop-init g c = hands_none g.J.Job.key_of g.J.Job.gives c.args.hands.items

pub loop-preserved : goal.loop-preserved
loop-preserved g c = hands_again g.J.Job.key_of g.J.Job.gives c.args.hands.items c.loop.hands.items c.turn_each_hand.new.hands.items c.loop.invariant c.turn_each_hand.ensures

pub turn_each_hand-requires-send-J : goal.turn_each_hand-requires-send-J
turn_each_hand-requires-send-J g c κs within = assumption

pub turn_each_hand-requires-after_bounds : goal.turn_each_hand-requires-after_bounds
turn_each_hand-requires-after_bounds g c κs within = assumption
