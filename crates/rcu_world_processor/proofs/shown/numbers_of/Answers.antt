use Rattle.std.proofs.Common.{◌∙◌}
use Rattle.rcu_lists.specs.Segments.{labelled}
use Rattle.rcu_world_processor.proofs.Waiting.{numbers_of_as}
use Rattle.rcu_world_processor.proofs.shown.numbers_of.Goals as goal

pub returns : goal.returns
returns g c = c.numbers.ensures.numbers ∙ numbers_of_as g.J.Job.key_of (labelled c.args.list.now)
