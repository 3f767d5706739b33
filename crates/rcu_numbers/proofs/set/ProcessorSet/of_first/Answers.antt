use Rattle.rcu_numbers.proofs.SetLaws.{first_next}
use Rattle.rcu_numbers.proofs.set.ProcessorSet.of_first.Goals as goal

pub loop-p-preserved : goal.loop-p-preserved
loop-p-preserved c = first_next c.loop-p.set c.add.new.self c.loop-p.p c.loop-p.invariant c.add.ensures.added c.add.ensures.others
