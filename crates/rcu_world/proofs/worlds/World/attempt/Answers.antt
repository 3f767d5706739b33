use Rattle.std.proofs.Common.{◌∙◌, length, ap, refl, subst, sym}
use Rattle.rcu_world.specs.Turns.{IsAtRest}
use Rattle.rcu_world.proofs.Leading.{took, passed, rest_took, length_took, shape_took}
use Rattle.rcu_world.proofs.worlds.World.attempt.Goals as goal

pub returns-in-Done-clause-rest : goal.returns-in-Done-clause-rest
returns-in-Done-clause-rest g c = λ k i. rest_took g.J.Job.key_of _ c.args.event _ c.in-Done.ensures.step.1 k i

pub returns-in-Due-clause-rest : goal.returns-in-Due-clause-rest
returns-in-Due-clause-rest g c = λ k i. rest_took g.J.Job.key_of _ c.args.event _ c.in-Due.ensures.step.1 k i

pub returns-in-Done-clause-leads : goal.returns-in-Done-clause-leads
returns-in-Done-clause-leads g c = took g.J.Job.key_of _ c.args.event _ c.in-Done.ensures.step.0 c.in-Done.ensures.step.1

pub returns-in-Due-clause-leads : goal.returns-in-Due-clause-leads
returns-in-Due-clause-leads g c = took g.J.Job.key_of _ c.args.event _ c.in-Due.ensures.step.0 c.in-Due.ensures.step.1

pub returns-in-Skipped-clause-leads : goal.returns-in-Skipped-clause-leads
returns-in-Skipped-clause-leads g c = passed g.J.Job.key_of _ c.args.event _ c.in-Skipped.ensures.step.0 c.in-Skipped.ensures.step.1

pub step-requires-send-J : goal.step-requires-send-J
step-requires-send-J g c κs within = c.type_bounds.send-J

pub step-requires-send-J-Receipt : goal.step-requires-send-J-Receipt
step-requires-send-J-Receipt g c κs within = c.type_bounds.send-J-Receipt

pub step-requires-after_bounds : goal.step-requires-after_bounds
step-requires-after_bounds g c κs within = (assumption, c.requires)

pub returns-in-Done-clause-enabled : goal.returns-in-Done-clause-enabled
returns-in-Done-clause-enabled g c = sym c.in-Done.ensures.step.0

pub returns-in-Done-clause-room : goal.returns-in-Done-clause-room
returns-in-Done-clause-room g c = λ n. refl

pub returns-in-Due-clause-enabled : goal.returns-in-Due-clause-enabled
returns-in-Due-clause-enabled g c = sym c.in-Due.ensures.step.0

pub returns-in-Due-clause-room : goal.returns-in-Due-clause-room
returns-in-Due-clause-room g c = λ n. refl

pub returns-in-Skipped-clause-enabled : goal.returns-in-Skipped-clause-enabled
returns-in-Skipped-clause-enabled g c = sym c.in-Skipped.ensures.step.0

pub returns-in-Skipped-clause-room : goal.returns-in-Skipped-clause-room
returns-in-Skipped-clause-room g c = λ n. refl

pub returns-clause-err : goal.returns-clause-err
returns-clause-err g c = c.in-Memory.ensures.step.1

pub returns-clause-err_enabled : goal.returns-clause-err_enabled
returns-clause-err_enabled g c = c.in-Memory.ensures.step.0

pub returns-clause-err_room : goal.returns-clause-err_room
returns-clause-err_room g c = c.in-Memory.ensures.step.3

pub returns-clause-room : goal.returns-clause-room
returns-clause-room g c = λ n. sym n ∙ c.in-Memory.ensures.step.3

pub returns-in-Skipped-clause-rest : goal.returns-in-Skipped-clause-rest
returns-in-Skipped-clause-rest g c = λ k i. subst IsAtRest (sym c.in-Skipped.ensures.step.1) i

pub returns-clause-rest : goal.returns-clause-rest
returns-clause-rest g c = λ k i. subst IsAtRest (sym c.in-Memory.ensures.step.1) i

pub returns-in-Done-clause-keeps : goal.returns-in-Done-clause-keeps
returns-in-Done-clause-keeps g c = record {
  kept = c.step.ensures.kept;
  shape = shape_took g.J.Job.key_of _ c.args.event _ c.in-Done.ensures.step.1;
  len = length_took g.J.Job.key_of _ c.args.event _ c.in-Done.ensures.step.1;
}

pub returns-in-Due-clause-keeps : goal.returns-in-Due-clause-keeps
returns-in-Due-clause-keeps g c = record {
  kept = c.step.ensures.kept;
  shape = shape_took g.J.Job.key_of _ c.args.event _ c.in-Due.ensures.step.1;
  len = length_took g.J.Job.key_of _ c.args.event _ c.in-Due.ensures.step.1;
}

pub returns-in-Skipped-clause-keeps : goal.returns-in-Skipped-clause-keeps
returns-in-Skipped-clause-keeps g c = record {
  kept = c.step.ensures.kept;
  shape = ap (λ w. w.shape) c.in-Skipped.ensures.step.1;
  len = ap (λ w. length w.cpus) c.in-Skipped.ensures.step.1;
}

pub returns-clause-keeps : goal.returns-clause-keeps
returns-clause-keeps g c = record {
  kept = c.step.ensures.kept;
  shape = ap (λ w. w.shape) c.in-Memory.ensures.step.1;
  len = ap (λ w. length w.cpus) c.in-Memory.ensures.step.1;
}
