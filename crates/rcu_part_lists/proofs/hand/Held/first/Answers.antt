use Rattle.rcu_lists.specs.Batches.{batch_items}
use Rattle.rcu_part_lists.proofs.Holdings.{look-safe}
use denote.Param.{param}
use Rattle.rcu_part_lists.proofs.Sizes.{held-batch}
use Rattle.rcu_part_lists.proofs.hand.Held.first.Goals as goal

pub returns-clause-safe : goal.returns-clause-safe
returns-clause-safe g c = look-safe _ (λ r. r.now) c.first.result (batch_items c.args.self.now.batch) c.first.ensures c.args.self.now.safe

pub first-requires : goal.first-requires
first-requires g c = held-batch (param 0 g.row.J) assumption
