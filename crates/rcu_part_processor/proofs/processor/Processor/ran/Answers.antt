use Rattle.rcu_part_processor.proofs.processor.Processor.ran.Goals as goal

pub returns : goal.returns
returns g c = c.len.ensures
