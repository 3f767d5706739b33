use Rattle.std.proofs.Common.{refl}
use Rattle.rcuo_replay.specs.Outcomes.{TellsAs}
use Rattle.rcuo_replay.proofs.Presences.{keeps_one, while_here}
use Rattle.rcuo_script.specs.declared.lines.Line.TheVariants as line
use Rattle.rcuo_script.specs.declared.lines.Verb.TheVariants as verb
use Rattle.rcuo_replay.proofs.commands.quiet_here.Goals as goal

pub returns-in-Some-clause-line : goal.returns-in-Some-clause-line
returns-in-Some-clause-line g c = while_here verb.Quiet c.args.cpu _ (TellsAs c.args.cpu (line.Counted c.args.cpu c.in-Some.seq)) c.args.processor.now _ _ _ c.in-Here.is refl (refl, (c.quiescent.ensures.keeps, c.in-Some.ensures.reports))

pub returns-in-Some-clause-kept : goal.returns-in-Some-clause-kept
returns-in-Some-clause-kept g c = keeps_one g.J.Job.key_of g.J.Job.gives c.args.processor.now _ c.quiescent.new.self c.in-Here.is c.quiescent.ensures.same c.quiescent.ensures.sound

pub returns-in-None-clause-line : goal.returns-in-None-clause-line
returns-in-None-clause-line g c = while_here verb.Quiet c.args.cpu _ (TellsAs c.args.cpu (line.Nothing c.args.cpu)) c.args.processor.now _ _ _ c.in-Here.is refl (refl, (c.quiescent.ensures.keeps, c.in-None.ensures.reports))

pub returns-in-None-clause-kept : goal.returns-in-None-clause-kept
returns-in-None-clause-kept g c = keeps_one g.J.Job.key_of g.J.Job.gives c.args.processor.now _ c.quiescent.new.self c.in-Here.is c.quiescent.ensures.same c.quiescent.ensures.sound

pub quiescent-requires-send-J : goal.quiescent-requires-send-J
quiescent-requires-send-J g c κs within = c.type_bounds.send-J

pub quiescent-requires-send-J-Receipt : goal.quiescent-requires-send-J-Receipt
quiescent-requires-send-J-Receipt g c κs within = c.type_bounds.send-J-Receipt

pub quiescent-requires-after_bounds : goal.quiescent-requires-after_bounds
quiescent-requires-after_bounds g c κs within = assumption
