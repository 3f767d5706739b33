use Rattle.std.proofs.Common.{ap, ◌∙◌}
use Rattle.rcu_lists.proofs.Outcomes.{on_ok_never, on_err_said}
use Rattle.rcu_world_processor.specs.Batches.{batch}
use Rattle.rcu_world_processor.specs.Views.{seen}
use Rattle.rcu_world_processor.proofs.Sizes.{batch_fits}
use Rattle.rcu_world_processor.proofs.moves.WorldProcessor+J+J+Receipt.join.Goals as goal

pub join_bare-requires-after_bounds : goal.join_bare-requires-after_bounds
join_bare-requires-after_bounds g c κs within = batch_fits g.row.J g.row.J-Receipt assumption

pub returns-in_err-join_bare : goal.returns-in_err-join_bare
returns-in_err-join_bare g c = let k = g.J.Job.key_of in let o = seen k c.args.self.now in let e = c.in_err-join_bare.ensures.err in
    record {
      step = record {
        ok = on_ok_never _ _ c.from_residual.ensures;
        err = on_err_said _ _ (ap (λ z. record o { joined = z; drawn = batch k c.join_bare.new.joined }) e.0 ∙ ap (λ z. record o { drawn = z }) e.1);
        given = λ mark a. a;
      };
    }
