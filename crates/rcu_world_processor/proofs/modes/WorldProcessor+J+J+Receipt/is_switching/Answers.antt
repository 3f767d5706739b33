use Rattle.std.proofs.Common.{◌∙◌, ◌&&◌, ◌||◌, not, ap}
use Rattle.std.specs.Prelude.{if◌then◌else◌}
use Rattle.rcu_jobs.specs.Modes.{is_offloaded, is_offloading}
use Rattle.rcu_world_processor.proofs.Sizes.{bypass_fits}
use Rattle.rcu_world_processor.proofs.modes.WorldProcessor+J+J+Receipt.is_switching.Goals as goal

pub returns : goal.returns
returns g c = let p = c.args.self.now in c.can_switch.ensures
    ∙ ap (λ b. if p.asked then not (is_offloaded p.mode) else (is_offloading p.mode || (is_offloaded p.mode && b))) c.is_clear.ensures

pub is_clear-requires-after_bounds : goal.is_clear-requires-after_bounds
is_clear-requires-after_bounds g c κs within = bypass_fits g.row.J g.row.J-Receipt assumption
