use Rattle.rcuo_replay.proofs.presence.return_away.Goals as goal

pub come_back-requires-send-J : goal.come_back-requires-send-J
come_back-requires-send-J g c κs within = c.type_bounds.send-J

pub come_back-requires-send-J-Receipt : goal.come_back-requires-send-J-Receipt
come_back-requires-send-J-Receipt g c κs within = c.type_bounds.send-J-Receipt

pub come_back-requires-after_bounds : goal.come_back-requires-after_bounds
come_back-requires-after_bounds g c κs within = assumption
