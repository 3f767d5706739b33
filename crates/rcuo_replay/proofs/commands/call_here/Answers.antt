use Rattle.std.proofs.Common.{refl, sym}
use Rattle.rcuo_replay.specs.Outcomes.{CallsAs}
use Rattle.rcuo_replay.proofs.Presences.{keeps_one, while_here}
use Rattle.rcuo_script.specs.declared.lines.Line.TheVariants as line
use Rattle.rcuo_replay.proofs.commands.call_here.Goals as goal

pub returns-in-Ok-clause-line : goal.returns-in-Ok-clause-line
returns-in-Ok-clause-line g c = while_here c.args.verb c.args.cpu _ (CallsAs g.J.Job.key_of c.args.verb c.args.cpu c.args.moment c.args.job (line.Number c.args.verb c.args.cpu c.in-Ok.ticket.number)) c.args.processor.now _ _ _ c.in-Here.is refl (refl, refl, (c.in-Ok.ticket, refl, c.in-Ok.ensures.calls))

pub returns-in-Ok-clause-kept : goal.returns-in-Ok-clause-kept
returns-in-Ok-clause-kept g c = keeps_one g.J.Job.key_of g.J.Job.gives c.args.processor.now _ c.call_one.new.processor c.in-Here.is c.call_one.ensures.same c.call_one.ensures.sound

pub returns-in-Err-clause-line : goal.returns-in-Err-clause-line
returns-in-Err-clause-line g c = while_here c.args.verb c.args.cpu _ (CallsAs g.J.Job.key_of c.args.verb c.args.cpu c.args.moment c.args.job (line.Refused c.args.verb c.args.cpu c.number.result)) c.args.processor.now _ _ _ c.in-Here.is refl (refl, refl, (c.in-Err.refused, sym c.number.ensures, c.in-Err.ensures.calls))

pub returns-in-Err-clause-kept : goal.returns-in-Err-clause-kept
returns-in-Err-clause-kept g c = keeps_one g.J.Job.key_of g.J.Job.gives c.args.processor.now _ c.call_one.new.processor c.in-Here.is c.call_one.ensures.same c.call_one.ensures.sound

pub call_one-requires-send-J : goal.call_one-requires-send-J
call_one-requires-send-J g c κs within = c.type_bounds.send-J

pub call_one-requires-send-J-Receipt : goal.call_one-requires-send-J-Receipt
call_one-requires-send-J-Receipt g c κs within = c.type_bounds.send-J-Receipt

pub call_one-requires-after_bounds : goal.call_one-requires-after_bounds
call_one-requires-after_bounds g c κs within = assumption
