use Rattle.std.proofs.Common.{◌∙◌, ◌&&◌, ap}
use Rattle.rcu_world_law.specs.Lists.{is_nil}
use Rattle.rcu_world_law.specs.Releases.{tick_releases}
use Rattle.rcu_jobs.specs.Modes.{is_offloaded}
use Rattle.rcu_world_processor.specs.Views.{seen}
use Rattle.rcu_world_processor.proofs.Sizes.{bypass_fits}
use Rattle.rcu_world_processor.proofs.tick.WorldProcessor+J+J+Receipt.is_released_in_tick.Goals as goal

pub returns : goal.returns
returns g c = let o = seen g.J.Job.key_of c.args.self.now in let a = o.asked in let u = c.args.urged in c.is_released.ensures
    ∙ ap (λ b. b && tick_releases c.is_clear.result c.is_late.result a u) c.is_offloaded.ensures
    ∙ ap (λ b. is_offloaded o.mode && tick_releases b c.is_late.result a u) c.is_clear.ensures
    ∙ ap (λ b. is_offloaded o.mode && tick_releases (is_nil o.bypass) b a u) c.is_late.ensures

pub is_clear-requires-after_bounds : goal.is_clear-requires-after_bounds
is_clear-requires-after_bounds g c κs within = bypass_fits g.row.J g.row.J-Receipt assumption

pub is_offloaded-requires-after_bounds : goal.is_offloaded-requires-after_bounds
is_offloaded-requires-after_bounds g c κs within = assumption

pub is_late-requires-after_bounds : goal.is_late-requires-after_bounds
is_late-requires-after_bounds g c κs within = assumption
