use Rattle.std.proofs.Common.{rules, ◌∙◌, ap}
use Rattle.rcu_world_law.specs.States.{Cpu}
use Rattle.rcu_jobs.specs.declared.modes.Mode.TheVariants.{Offloading}
use Rattle.rcu_world_processor.specs.Views.{seen}
use Rattle.rcu_world_processor.proofs.Heeding.{heeds_poured, heeds_waiting}
use Rattle.rcu_world_processor.proofs.modes.WorldProcessor+J+J+Receipt.pour_or_wait.Goals as goal

pub returns-in-Ok-clause-step : goal.returns-in-Ok-clause-step
returns-in-Ok-clause-step g c = record {
  made = c.in-Ok.ensures.step.ok ∙ heeds_poured (seen g.J.Job.key_of c.args.self.now) c.requires.mode c.requires.asked;
  given = search rules;
}

pub returns-in-Err-clause-step : goal.returns-in-Err-clause-step
returns-in-Err-clause-step g c = record {
  made = ap {B = Cpu} (λ s. record s { mode = Offloading }) c.in-Err.ensures.step.err ∙ heeds_waiting (seen g.J.Job.key_of c.args.self.now) c.requires.mode c.requires.asked;
  given = search rules;
}

pub pour-requires-after_bounds : goal.pour-requires-after_bounds
pour-requires-after_bounds g c κs within = assumption

pub returns-in-Err-clause-none : goal.returns-in-Err-clause-none
returns-in-Err-clause-none g c = λ e. c.in-Err.ensures.none e
