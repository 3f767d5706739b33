use Rattle.std.proofs.Common.{◌∙◌}
use Rattle.rcu_lists.specs.Segments.{labelled}
use Rattle.rcu_world_processor.proofs.Waiting.{done_as}
use Rattle.rcu_world_processor.proofs.waits.count_done.Goals as goal

pub returns : goal.returns
returns g c = c.done_len.ensures.number ∙ done_as g.J.Job.key_of (labelled c.args.list.now) c.done_len.ensures.labelled
