use Rattle.std.proofs.Common.{rules, ◌++◌, ◌∷◌, [], ◌∙◌, ap, sym, subst, map}
use Rattle.rcu_world_processor.specs.Views.{run, seen}
use Rattle.rcu_jobs.specs.Records.{Given}
use Rattle.rcu_world_processor.specs.Waits.{call, waiting}
use Rattle.rcu_lists.proofs.Outcomes.{if_ok_never, on_err_said, on_ok_never}
use Rattle.rcu_world_processor.proofs.Claiming.{claims_own, ready_own}
use Rattle.rcu_world_processor.proofs.claims.WorldProcessor+J+J+Receipt.claim_own.Goals as goal

pub returns-in_err-reserve-clause-step : goal.returns-in_err-reserve-clause-step
returns-in_err-reserve-clause-step g c = record {
  ok = on_ok_never _ _ c.from_residual.ensures;
  err = (
      let o = seen g.J.Job.key_of c.args.self.now in on_err_said _ _ (ap (λ rs. record o { runs = map run rs }) c.reserve.ensures.items)
      );
  given = λ mark a. (subst (Given g.J.Job.gives) (sym c.reserve.ensures.items) a.0, a.1);
}

pub take_front-callback-requires-after_bounds : goal.take_front-callback-requires-after_bounds
take_front-callback-requires-after_bounds g c κs within = ready_own (seen g.J.Job.key_of c.args.self.now) c.requires.ready

pub returns-clause-step : goal.returns-clause-step
returns-clause-step g c = record {
  ok = (
      let k = g.J.Job.key_of in let o = seen k c.args.self.now in
      claims_own o (waiting k c.take_front-callback.new.list) (call k c.take_front-callback.result) (map run c.run_next-key.new.records.items) c.take_front-callback.ensures.rest c.take_front-callback.ensures.first
      (c.run_next-key.ensures.runs ∙ ap (λ rs. map run rs ++ record { call = call k c.take_front-callback.result; ready = o.sight } ∷ []) c.reserve.ensures.items)
      );
  err = search rules;
  given = λ mark a. (c.run_next-key.ensures.given (subst (Given g.J.Job.gives) (sym c.reserve.ensures.items) a.0), a.1);
}

pub returns-in_err-reserve-clause-key : goal.returns-in_err-reserve-clause-key
returns-in_err-reserve-clause-key g c = if_ok_never _ _ c.from_residual.ensures

pub run_next-key-requires-after_bounds : goal.run_next-key-requires-after_bounds
run_next-key-requires-after_bounds g c κs within = c.in_ok-reserve.ensures.ok

pub returns-clause-key : goal.returns-clause-key
returns-clause-key g c = c.run_next-key.ensures.key ∙ ap (λ x. x.key) c.take_front-callback.ensures.first
