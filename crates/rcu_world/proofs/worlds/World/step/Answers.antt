use Rattle.rcu_world.proofs.Keeping.{skipped_local, answers_kept}
use denote.Param.{param}
use Rattle.rcu_world.proofs.Fitting.{core_fits}
use Rattle.rcu_world.proofs.worlds.World.step.Goals as goal

pub returns-clause-kept : goal.returns-clause-kept
returns-clause-kept g c = record {
  fit = answers_kept g.J.Job.key_of _ c.args.event c.apply.result _ c.requires.fit c.apply.ensures.answers.step;
  given = c.apply.ensures.answers.given c.requires.given;
}

pub returns-clause-offloaded : goal.returns-clause-offloaded
returns-clause-offloaded g c = λ p o e. skipped_local g.J.Job.key_of _ _ c.args.event c.apply.result p c.requires.fit.core o e c.apply.ensures.answers.step

pub apply-requires-send-J : goal.apply-requires-send-J
apply-requires-send-J g c κs within = c.type_bounds.send-J

pub apply-requires-send-J-Receipt : goal.apply-requires-send-J-Receipt
apply-requires-send-J-Receipt g c κs within = c.type_bounds.send-J-Receipt

pub apply-requires-after_bounds : goal.apply-requires-after_bounds
apply-requires-after_bounds g c κs within = (core_fits (param 0 g.row.J) (param 1 g.row.J-Receipt) assumption, (c.requires.fit, c.requires.given))
