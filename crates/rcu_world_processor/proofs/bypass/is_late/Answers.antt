use Rattle.rcu_lists.specs.Bypasses.{bypass_items, bypass_pace}
use Rattle.rcu_world_processor.proofs.Paces.{late_as}
use Rattle.rcu_world_processor.proofs.bypass.is_late.Goals as goal

pub returns : goal.returns
returns g c = late_as g.J.Job.key_of c.args.moment (bypass_pace c.args.bypass.now) (bypass_items c.args.bypass.now) c.is_late.result c.is_late.ensures.late c.is_late.ensures.empty
