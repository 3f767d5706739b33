use Rattle.rcuo_replay.proofs.Presences.{keeps_same}
use Rattle.rcuo_replay.proofs.presence.bring_back.Goals as goal

pub returns-in-Here-clause-kept : goal.returns-in-Here-clause-kept
returns-in-Here-clause-kept g c = keeps_same g.J.Job.key_of g.J.Job.gives c.args.processor _ c.in-Here.is

pub return_away-requires-send-J : goal.return_away-requires-send-J
return_away-requires-send-J g c κs within = c.type_bounds.send-J

pub return_away-requires-send-J-Receipt : goal.return_away-requires-send-J-Receipt
return_away-requires-send-J-Receipt g c κs within = c.type_bounds.send-J-Receipt

pub return_away-requires-after_bounds : goal.return_away-requires-after_bounds
return_away-requires-after_bounds g c κs within = assumption
