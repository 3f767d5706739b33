use Rattle.rcu_part_hand.proofs.HandRuns.{same_hand, same_hand_again}
use Rattle.rcu_runtime_threads.proofs.Sends.{sent_as}
use Rattle.rcu_runtime_threads.proofs.turns.run_hand.Goals as goal

pub loop-preserved : goal.loop-preserved
loop-preserved g c = let i = c.loop.invariant.stays in let e = c.turn-turned.ensures in record {
  next = tt;
  finite = tt;
  stays = record { same = same_hand_again c.args.hand.state c.loop.hand.state c.turn-turned.new.self.state i.same e.same; sound = λ sound. e.sound (i.sound sound) };
}

pub turn-turned-requires-after_bounds : goal.turn-turned-requires-after_bounds
turn-turned-requires-after_bounds g c κs within = assumption

pub turn-turned-requires-send-J : goal.turn-turned-requires-send-J
turn-turned-requires-send-J g c κs within = c.type_bounds.send-J

pub turn-turned-requires-send-J-Receipt : goal.turn-turned-requires-send-J-Receipt
turn-turned-requires-send-J-Receipt g c κs within = sent_as 2 1 g.row.J-Receipt c.type_bounds.send-J-Receipt

pub loop-init : goal.loop-init
loop-init g c = record { next = tt; finite = tt; stays = record { same = same_hand c.args.hand.state; sound = λ sound. sound } }

pub returns-then-is_over : goal.returns-then-is_over
returns-then-is_over g c = c.loop.invariant.stays

pub unreachable-requires : goal.unreachable-requires
unreachable-requires g c = let z = c.in-None.ensures.steps in cc
