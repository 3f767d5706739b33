use Rattle.rcu_part_processor.proofs.processor.Processor.records_left.Goals as goal

pub returns : goal.returns
returns g c = c.records_left.ensures
