use Rattle.rcu_part_order.proofs.Ordering.{begins, next, merged}
use Rattle.rcu_part_order.proofs.laws.one_order.Goals as goal

pub returns-clause-begins : goal.returns-clause-begins
returns-clause-begins c = begins

pub returns-clause-next : goal.returns-clause-next
returns-clause-next c = next

pub returns-clause-ends : goal.returns-clause-ends
returns-clause-ends c = merged
