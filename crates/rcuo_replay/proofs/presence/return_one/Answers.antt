use Rattle.std.proofs.Common.{refl, subst, sym}
use Rattle.rcuo_replay.specs.Outcomes.{ReturnsOne}
use Rattle.rcuo_replay.specs.declared.presence.Presence.TheVariants.{Here}
use Rattle.rcuo_replay.proofs.Presences.{keeps_same}
use Rattle.rcuo_script.specs.declared.lines.Line.TheVariants.{Returned}
use Rattle.rcuo_replay.proofs.presence.return_one.Goals as goal

pub returns-in-Here-clause-kept : goal.returns-in-Here-clause-kept
returns-in-Here-clause-kept g c = keeps_same g.J.Job.key_of g.J.Job.gives c.args.processor _ c.in-Here.is

pub returns-in-Away-clause-line : goal.returns-in-Away-clause-line
returns-in-Away-clause-line g c = subst (λ x. ReturnsOne c.args.cpu (Returned c.args.cpu) x (Here c.return_away.result)) (sym c.in-Away.is) (refl, (c.return_away.result, refl, c.return_away.ensures.back))

pub return_away-requires-send-J : goal.return_away-requires-send-J
return_away-requires-send-J g c κs within = c.type_bounds.send-J

pub return_away-requires-send-J-Receipt : goal.return_away-requires-send-J-Receipt
return_away-requires-send-J-Receipt g c κs within = c.type_bounds.send-J-Receipt

pub return_away-requires-after_bounds : goal.return_away-requires-after_bounds
return_away-requires-after_bounds g c κs within = assumption
