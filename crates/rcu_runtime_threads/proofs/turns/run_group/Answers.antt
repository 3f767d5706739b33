use Rattle.rcu_part_group.proofs.GroupTurns.{same_group, same_group_again}
use Rattle.rcu_runtime_threads.proofs.Sends.{sent_as}
use Rattle.rcu_runtime_threads.proofs.turns.run_group.Goals as goal

pub loop-init : goal.loop-init
loop-init g c = record { next = tt; finite = tt; stays = same_group c.args.group.state }

pub turn-turned-requires-after_bounds : goal.turn-turned-requires-after_bounds
turn-turned-requires-after_bounds g c κs within = assumption

pub loop-preserved : goal.loop-preserved
loop-preserved g c = record { next = tt; finite = tt; stays = same_group_again c.args.group.state c.loop.group.state c.turn-turned.new.self.state c.loop.invariant.stays c.turn-turned.ensures.same }

pub turn-turned-requires-send-J : goal.turn-turned-requires-send-J
turn-turned-requires-send-J g c κs within = c.type_bounds.send-J

pub turn-turned-requires-send-J-Receipt : goal.turn-turned-requires-send-J-Receipt
turn-turned-requires-send-J-Receipt g c κs within = sent_as 2 1 g.row.J-Receipt c.type_bounds.send-J-Receipt

pub returns-then-is_over : goal.returns-then-is_over
returns-then-is_over g c = c.loop.invariant.stays

pub unreachable-requires : goal.unreachable-requires
unreachable-requires g c = let z = c.in-None.ensures.steps in cc
