use Rattle.test_world.proofs.steps.play.Goals as goal

pub play_one-requires-send-J : goal.play_one-requires-send-J
play_one-requires-send-J g c κs within = c.type_bounds.send-J

pub play_one-requires-send-J-Receipt : goal.play_one-requires-send-J-Receipt
play_one-requires-send-J-Receipt g c κs within = c.type_bounds.send-J-Receipt

pub play_one-requires-after_bounds : goal.play_one-requires-after_bounds
play_one-requires-after_bounds g c κs within = (assumption, c.loop-at.invariant)
