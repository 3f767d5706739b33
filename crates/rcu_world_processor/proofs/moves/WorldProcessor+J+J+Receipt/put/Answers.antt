use Rattle.std.proofs.Common.{rules, ◌++◌, ◌∷◌, [], ◌∙◌, ap}
use Rattle.rcu_world_law.specs.Releases.{pace_after_put}
use Rattle.rcu_world_processor.specs.Batches.{batches, bypassed, pace}
use Rattle.rcu_world_processor.specs.Views.{seen}
use Rattle.rcu_lists.proofs.Outcomes.{on_err_said, on_ok_never}
use Rattle.rcu_world_processor.proofs.Paces.{put_as}
use Rattle.rcu_world_processor.proofs.Sizes.{batch_fits, bypass_fits}
use Rattle.rcu_world_processor.proofs.moves.WorldProcessor+J+J+Receipt.put.Goals as goal

pub returns : goal.returns
returns g c = record {
  step = record {
    ok = (
        let k = g.J.Job.key_of in let o = seen k c.args.self.now in
        put_as o (batches k c.release.new.lane.items) (bypassed k c.release.new.bypass) (pace c.release.new.bypass) (pace_after_put c.args.moment o)
        (c.release.ensures.lane ∙ ap (λ z. batches k z ++ bypassed k c.args.self.now.bypass ∷ []) c.reserve.ensures.items) c.release.ensures.none (c.release.ensures.pace.after o)
        );
    err = search rules;
    given = search rules;
  };
}

pub release-requires-after_bounds : goal.release-requires-after_bounds
release-requires-after_bounds g c κs within = (bypass_fits g.row.J g.row.J-Receipt assumption, (batch_fits g.row.J g.row.J-Receipt assumption, c.in_ok-reserve.ensures.ok))

pub returns-in_err-reserve : goal.returns-in_err-reserve
returns-in_err-reserve g c = record {
  step = record {
    ok = on_ok_never _ _ c.from_residual.ensures;
    err = (
        let k = g.J.Job.key_of in let o = seen k c.args.self.now in on_err_said _ _ (ap (λ z. record o { lane = batches k z }) c.reserve.ensures.items)
        );
    given = λ mark a. a;
  };
}
