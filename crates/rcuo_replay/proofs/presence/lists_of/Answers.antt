use Rattle.rcuo_replay.proofs.presence.lists_of.Goals as goal

pub lists-requires-send-J : goal.lists-requires-send-J
lists-requires-send-J g c κs within = c.type_bounds.send-J

pub lists-requires-send-J-Receipt : goal.lists-requires-send-J-Receipt
lists-requires-send-J-Receipt g c κs within = c.type_bounds.send-J-Receipt

pub lists-requires-after_bounds : goal.lists-requires-after_bounds
lists-requires-after_bounds g c κs within = assumption
