use Rattle.rcuo_replay.proofs.Presences.{keeps_here}
use Rattle.rcuo_replay.proofs.presence.leave_here.Goals as goal

pub returns-in-Ok-clause-kept : goal.returns-in-Ok-clause-kept
returns-in-Ok-clause-kept g c = record { same = c.in-Ok.ensures.same; sound = λ s. (c.in-Ok.ensures.sound s).0 }

pub returns-in-Err-clause-kept : goal.returns-in-Err-clause-kept
returns-in-Err-clause-kept g c = keeps_here g.J.Job.key_of g.J.Job.gives c.args.processor c.in-Err.processor c.in-Err.ensures.stays.same (λ s. (c.in-Err.ensures.sound s).1)

pub lists-requires-send-J : goal.lists-requires-send-J
lists-requires-send-J g c κs within = c.type_bounds.send-J

pub lists-requires-send-J-Receipt : goal.lists-requires-send-J-Receipt
lists-requires-send-J-Receipt g c κs within = c.type_bounds.send-J-Receipt

pub lists-requires-after_bounds : goal.lists-requires-after_bounds
lists-requires-after_bounds g c κs within = assumption

pub leave-requires-send-J : goal.leave-requires-send-J
leave-requires-send-J g c κs within = c.type_bounds.send-J

pub leave-requires-send-J-Receipt : goal.leave-requires-send-J-Receipt
leave-requires-send-J-Receipt g c κs within = c.type_bounds.send-J-Receipt

pub leave-requires-after_bounds : goal.leave-requires-after_bounds
leave-requires-after_bounds g c κs within = assumption
