use Rattle.rcuo_replay.proofs.Presences.{keeps_same}
use Rattle.rcuo_replay.proofs.presence.leave_one.Goals as goal

pub returns-in-Away-clause-kept : goal.returns-in-Away-clause-kept
returns-in-Away-clause-kept g c = keeps_same g.J.Job.key_of g.J.Job.gives c.args.processor _ c.in-Away.is

pub leave_here-requires-send-J : goal.leave_here-requires-send-J
leave_here-requires-send-J g c κs within = c.type_bounds.send-J

pub leave_here-requires-send-J-Receipt : goal.leave_here-requires-send-J-Receipt
leave_here-requires-send-J-Receipt g c κs within = c.type_bounds.send-J-Receipt

pub leave_here-requires-after_bounds : goal.leave_here-requires-after_bounds
leave_here-requires-after_bounds g c κs within = assumption
