use Rattle.rcu_lists.specs.Segments.{labelled}
use Rattle.rcu_part_lists.proofs.Holdings.{first-safe}
use Rattle.rcu_part_lists.proofs.processor_lists.ProcessorLists.first.Goals as goal

pub returns-clause-safe : goal.returns-clause-safe
returns-clause-safe g c = first-safe _ (λ r. r.now) c.first_done.result (labelled c.args.self.now.own) c.first_done.ensures c.args.self.now.own_safe
