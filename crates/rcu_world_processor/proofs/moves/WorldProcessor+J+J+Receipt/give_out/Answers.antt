use Rattle.std.proofs.Common.{rules, ap, ◌∙◌, ◌++◌, ◌∷◌, []}
use Rattle.rcu_world_processor.specs.Batches.{batch, batches}
use Rattle.rcu_world_processor.specs.Waits.{calls}
use Rattle.rcu_world_processor.specs.Views.{seen}
use Rattle.rcu_world_processor.proofs.Sizes.{batch_fits, one_fits}
use Rattle.rcu_lists.proofs.Outcomes.{on_ok_never, on_err_said}
use Rattle.rcu_world_processor.proofs.Gives.{gives_out_as}
use Rattle.rcu_world_processor.proofs.moves.WorldProcessor+J+J+Receipt.give_out.Goals as goal

pub returns-in_err-reserve : goal.returns-in_err-reserve
returns-in_err-reserve g c = record {
  step = record {
    ok = on_ok_never _ _ c.from_residual.ensures;
    err = (
        let k = g.J.Job.key_of in on_err_said _ _ (ap (λ z. record (seen k c.args.self.now) { done_lane = batches k z }) c.reserve.ensures.items)
        );
    given = search rules;
  };
}

pub take_all-requires : goal.take_all-requires
take_all-requires g c = batch_fits g.row.J g.row.J-Receipt assumption

pub put_batch-requires-after_bounds : goal.put_batch-requires-after_bounds
put_batch-requires-after_bounds g c κs within = (batch_fits g.row.J g.row.J-Receipt assumption, one_fits _ _ c.in_ok-reserve.ensures.ok)

pub returns : goal.returns
returns g c = record {
  step = record {
    ok = (
        let k = g.J.Job.key_of in
        gives_out_as (seen k c.args.self.now) (batches k c.put_batch.new.lane.items) (batch k c.take_all.result) (batch k c.take_all.new.self)
        (c.put_batch.ensures ∙ ap (λ z. batches k z ++ batch k c.take_all.result ∷ []) c.reserve.ensures.items) (ap (batch k) c.take_all.ensures.all) (ap (calls k) c.take_all.ensures.left)
        );
    err = search rules;
    given = search rules;
  };
}
