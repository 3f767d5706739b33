use Rattle.std.proofs.Common.{refl}
use Rattle.rcuo_replay.specs.Outcomes.{TicksAs}
use Rattle.rcuo_replay.proofs.Presences.{keeps_one, while_here}
use Rattle.rcuo_script.specs.declared.lines.Line.TheVariants as line
use Rattle.rcuo_script.specs.declared.lines.Verb.TheVariants as verb
use Rattle.rcuo_replay.proofs.commands.tick_here.Goals as goal

pub returns-clause-line : goal.returns-clause-line
returns-clause-line g c = while_here verb.Tick c.args.cpu _ (TicksAs c.args.cpu c.args.moment (line.Ran verb.Tick c.args.cpu c.tick-ticked.result.ran)) c.args.processor.now _ _ _ c.in-Here.is refl (refl, refl, (c.tick-ticked.result, refl, c.tick-ticked.ensures.ticks))

pub returns-clause-kept : goal.returns-clause-kept
returns-clause-kept g c = keeps_one g.J.Job.key_of g.J.Job.gives c.args.processor.now _ c.tick-ticked.new.self c.in-Here.is c.tick-ticked.ensures.same c.tick-ticked.ensures.sound

pub tick-ticked-requires-send-J : goal.tick-ticked-requires-send-J
tick-ticked-requires-send-J g c κs within = c.type_bounds.send-J

pub tick-ticked-requires-send-J-Receipt : goal.tick-ticked-requires-send-J-Receipt
tick-ticked-requires-send-J-Receipt g c κs within = c.type_bounds.send-J-Receipt

pub tick-ticked-requires-after_bounds : goal.tick-ticked-requires-after_bounds
tick-ticked-requires-after_bounds g c κs within = assumption
