use Rattle.std.proofs.Common.{rules, ap, ◌∙◌, ◌++◌, ◌∷◌, []}
use Rattle.rcu_world_processor.specs.Batches.{batch, batches}
use Rattle.rcu_world_processor.specs.Waits.{waiting}
use Rattle.rcu_world_processor.specs.Views.{seen}
use Rattle.rcu_world_processor.proofs.Sizes.{batch_fits, one_fits}
use Rattle.rcu_lists.proofs.Outcomes.{on_ok_never, on_err_said}
use Rattle.rcu_world_processor.proofs.Gives.{gives_done_as, none_given}
use Rattle.rcu_world_processor.proofs.moves.WorldProcessor+J+J+Receipt.give_done.Goals as goal

pub returns-in_err-reserve : goal.returns-in_err-reserve
returns-in_err-reserve g c = record {
  step = record {
    ok = on_ok_never _ _ c.from_residual.ensures;
    err = (
        let k = g.J.Job.key_of in on_err_said _ _ (ap (λ z. record (seen k c.args.self.now) { done_lane = batches k z }) c.reserve.ensures.items)
        );
    given = search rules;
  };
}

pub take_given-requires-after_bounds : goal.take_given-requires-after_bounds
take_given-requires-after_bounds g c κs within = batch_fits g.row.J g.row.J-Receipt assumption

pub returns-in_err-given : goal.returns-in_err-given
returns-in_err-given g c = record {
  step = record {
    ok = on_ok_never _ _ c.from_residual-in_err-given.ensures;
    err = (
        let k = g.J.Job.key_of in
        on_err_said _ _ (none_given (seen k c.args.self.now) (batches k c.reserve.new.self.items) (waiting k c.take_given.new.list) (ap (batches k) c.reserve.ensures.items) c.in_err-given.ensures.err)
        );
    given = search rules;
  };
}

pub put_batch-requires-after_bounds : goal.put_batch-requires-after_bounds
put_batch-requires-after_bounds g c κs within = (batch_fits g.row.J g.row.J-Receipt assumption, one_fits _ _ c.in_ok-reserve.ensures.ok)

pub returns : goal.returns
returns g c = record {
  step = record {
    ok = (
        let k = g.J.Job.key_of in
        gives_done_as c.args.blimit (seen k c.args.self.now) (batches k c.put_batch.new.lane.items) (batch k c.in_ok-given.given) (waiting k c.take_given.new.list)
        (c.put_batch.ensures ∙ ap (λ z. batches k z ++ batch k c.in_ok-given.given ∷ []) c.reserve.ensures.items) c.in_ok-given.ensures.given c.in_ok-given.ensures.list
        );
    err = search rules;
    given = search rules;
  };
}
