use Rattle.std.proofs.Common.{rules, ◌∙◌, sym}
use Rattle.rcu_world_processor.specs.Views.{seen}
use Rattle.rcu_world_processor.proofs.Heeding.{heeds_nothing, heeds_leaving, switching_on}
use Rattle.rcu_world_processor.proofs.modes.WorldProcessor+J+J+Receipt.heed.Goals as goal

pub returns-then-not-is_switching-clause-step : goal.returns-then-not-is_switching-clause-step
returns-then-not-is_switching-clause-step g c = record {
  made = heeds_nothing (seen g.J.Job.key_of c.args.self.now) (sym c.is_switching.ensures ∙ c.if-not-is_switching.true);
  given = search rules;
}

pub returns-clause-step : goal.returns-clause-step
returns-clause-step g c = record {
  made = (
      let o = seen g.J.Job.key_of c.args.self.now in
      c.leave.ensures.step.made ∙ heeds_leaving o (sym c.is_switching.ensures ∙ c.if-not-is_switching.false) c.if-self.false
      );
  given = search rules;
}

pub pour_or_wait-requires-after_bounds : goal.pour_or_wait-requires-after_bounds
pour_or_wait-requires-after_bounds g c κs within = let o = seen g.J.Job.key_of c.args.self.now in
    (assumption, (switching_on o (sym c.is_switching.ensures ∙ c.if-not-is_switching.false) c.if-self.true, c.if-self.true))

pub is_switching-requires-after_bounds : goal.is_switching-requires-after_bounds
is_switching-requires-after_bounds g c κs within = assumption

pub leave-requires-after_bounds : goal.leave-requires-after_bounds
leave-requires-after_bounds g c κs within = assumption
