use Rattle.std.proofs.Common.{◌∙◌}
use Rattle.rcu_lists.specs.Segments.{labelled}
use Rattle.rcu_world_processor.proofs.Waiting.{lengths_of_as}
use Rattle.rcu_world_processor.proofs.shown.lengths_of.Goals as goal

pub returns : goal.returns
returns g c = c.lengths.ensures ∙ lengths_of_as g.J.Job.key_of (labelled c.args.list.now)
