use Rattle.std.proofs.Common.{◌≡◌, rules}
use Rattle.rcu_lists.specs.Labels.{count, is_done}
use Rattle.rcu_lists.specs.Segments.{labelled}
use Rattle.rcu_world_processor.proofs.Waiting.{none_done}
use Rattle.rcu_world_processor.proofs.waits.can_claim_first.Goals as goal

pub returns-in-None : goal.returns-in-None
returns-in-None g c = let e : count is_done (labelled c.args.list.now) ≡ 0 = search rules in (none_done g.J.Job.key_of (labelled c.args.list.now) c.args.turn e).0
