use Rattle.rcu_world_processor.specs.Batches.{bypassed, pace}
use Rattle.rcu_world_processor.specs.Views.{seen}
use Rattle.rcu_world_processor.specs.Waits.{waiting}
use Rattle.rcu_world_processor.proofs.Heeding.{pours_as}
use Rattle.std.proofs.Common.{rules, ◌∙◌}
use Rattle.std.proofs.lemmas.Bool.{false≢true}
use Rattle.rcu_world_processor.proofs.Sizes.{bypass_fits}
use Rattle.rcu_lists.proofs.Outcomes.{on_ok_never, on_err_said}
use Rattle.rcu_world_processor.proofs.Gives.{none_poured}
use Rattle.rcu_world_processor.proofs.modes.WorldProcessor+J+J+Receipt.pour.Goals as goal

pub returns-clause-step : goal.returns-clause-step
returns-clause-step g c = record {
  ok = (
      let k = g.J.Job.key_of in
      pours_as (seen k c.args.self.now) (waiting k c.pour_all.new.list) (bypassed k c.pour_all.new.bypass) (pace c.pour_all.new.bypass) c.in_ok-pour_all.ensures.left c.in_ok-pour_all.ensures.moved c.in_ok-pour_all.ensures.pace
      );
  err = search rules;
  given = λ mark a. (a.0, c.pour_all.ensures.qhimark ∙ a.1);
}

pub pour_all-requires-after_bounds : goal.pour_all-requires-after_bounds
pour_all-requires-after_bounds g c κs within = bypass_fits g.row.J g.row.J-Receipt assumption

pub returns-in_err-pour_all-clause-step : goal.returns-in_err-pour_all-clause-step
returns-in_err-pour_all-clause-step g c = record {
  ok = on_ok_never _ _ c.from_residual.ensures;
  err = (
      let k = g.J.Job.key_of in let e = c.in_err-pour_all.ensures.err in
      on_err_said _ _ (none_poured (seen k c.args.self.now) (waiting k c.pour_all.new.list) (bypassed k c.pour_all.new.bypass) (pace c.pour_all.new.bypass) e.0 e.1 e.2)
      );
  given = λ mark a. (a.0, c.pour_all.ensures.qhimark ∙ a.1);
}

pub returns-in_err-pour_all-clause-none : goal.returns-in_err-pour_all-clause-none
returns-in_err-pour_all-clause-none g c = λ e. absurd (false≢true (c.in_err-pour_all.ensures.none e))
