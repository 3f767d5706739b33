use Rattle.std.proofs.Common.{◌∙◌, ◌≡◌, sym, true, false}
use Rattle.rcu_world.proofs.Leading.{shape_took, length_took}
use Rattle.rcu_world.specs.declared.events.Event.TheVariants.{Stamp}
use Rattle.rcu_world.proofs.Keeping.{answers_kept}
use Rattle.rcu_world.proofs.Resting.{rest_stamped}
use denote.Param.{param}
use Rattle.rcu_world.specs.Views.{state}
use Rattle.rcu_world.proofs.Fitting.{core_fits}
use Rattle.rcu_world.proofs.Stamping.{stamp_done, stamp_due}
use Rattle.rcu_world.proofs.worlds.World.stamp_call.Goals as goal

pub put-requires-send-J : goal.put-requires-send-J
put-requires-send-J g c κs within = c.type_bounds.send-J

pub put-requires-send-J-Receipt : goal.put-requires-send-J-Receipt
put-requires-send-J-Receipt g c κs within = c.type_bounds.send-J-Receipt

pub put-requires-after_bounds : goal.put-requires-after_bounds
put-requires-after_bounds g c κs within = (
  assumption,
  record {
    fit = answers_kept g.J.Job.key_of _ (Stamp c.args.cpu c.args.moment c.args.lazy) c.stamp.result _ c.requires.world.fit c.stamp.ensures.answers.step;
    given = c.stamp.ensures.answers.given c.requires.world.given;
  },
)

pub returns-in-Done-clause-rest : goal.returns-in-Done-clause-rest
returns-in-Done-clause-rest g c = rest_stamped _ _ c.args.cpu c.args.moment c.args.lazy c.requires.fresh c.in-Done.ensures.answers.step.1

pub returns-in-Due-clause-rest : goal.returns-in-Due-clause-rest
returns-in-Due-clause-rest g c = λ i. c.put.ensures.events.stays.rest (rest_stamped _ _ c.args.cpu c.args.moment c.args.lazy c.requires.fresh c.in-Due.ensures.answers.step.1 i)

pub stamp-requires-send-J : goal.stamp-requires-send-J
stamp-requires-send-J g c κs within = c.type_bounds.send-J

pub stamp-requires-send-J-Receipt : goal.stamp-requires-send-J-Receipt
stamp-requires-send-J-Receipt g c κs within = c.type_bounds.send-J-Receipt

pub stamp-requires-after_bounds : goal.stamp-requires-after_bounds
stamp-requires-after_bounds g c κs within = (core_fits (param 0 g.row.J) (param 1 g.row.J-Receipt) assumption, (c.requires.world.fit, c.requires.world.given))

pub unreachable-requires-in-Memory : goal.unreachable-requires-in-Memory
unreachable-requires-in-Memory g c = absurd (let z : true ≡ false = c.in-Memory.ensures.sure c.requires.ready in cc)

pub returns-in-Due-clause-events : goal.returns-in-Due-clause-events
returns-in-Due-clause-events g c = let a = c.in-Due.ensures.answers.step in stamp_due (state g.J.Job.key_of c.args.self.now.core) _ _ c.args.cpu c.args.moment c.args.lazy c.put.result a.0 a.1 a.2 c.put.ensures.events.leads

pub returns-in-Done-clause-events : goal.returns-in-Done-clause-events
returns-in-Done-clause-events g c = let a = c.in-Done.ensures.answers.step in stamp_done (state g.J.Job.key_of c.args.self.now.core) _ c.args.cpu c.args.moment c.args.lazy a.0 a.1 a.2

pub unreachable-requires : goal.unreachable-requires
unreachable-requires g c = let e : true ≡ false = sym c.requires.fresh ∙ c.in-Skipped.ensures.answers.step.0 in cc

pub returns-in-Done-clause-keeps : goal.returns-in-Done-clause-keeps
returns-in-Done-clause-keeps g c = record {
  kept = record {
    fit = answers_kept g.J.Job.key_of _ (Stamp c.args.cpu c.args.moment c.args.lazy) c.stamp.result _ c.requires.world.fit c.stamp.ensures.answers.step;
    given = c.stamp.ensures.answers.given c.requires.world.given;
  };
  shape = shape_took g.J.Job.key_of _ (Stamp c.args.cpu c.args.moment c.args.lazy) _ c.in-Done.ensures.answers.step.1;
  len = length_took g.J.Job.key_of _ (Stamp c.args.cpu c.args.moment c.args.lazy) _ c.in-Done.ensures.answers.step.1;
}

pub returns-in-Due-clause-keeps : goal.returns-in-Due-clause-keeps
returns-in-Due-clause-keeps g c = record {
  kept = c.put.ensures.events.stays.kept;
  shape = c.put.ensures.events.stays.shape ∙ shape_took g.J.Job.key_of _ (Stamp c.args.cpu c.args.moment c.args.lazy) _ c.in-Due.ensures.answers.step.1;
  len = c.put.ensures.events.stays.len ∙ length_took g.J.Job.key_of _ (Stamp c.args.cpu c.args.moment c.args.lazy) _ c.in-Due.ensures.answers.step.1;
}
