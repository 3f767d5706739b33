use Rattle.rcu_lists.proofs.batch.Batch.pack_few.Goals as goal

pub move_into-requires : goal.move_into-requires
move_into-requires g c = (assumption, c.requires.few)

pub returns-clause-packed : goal.returns-clause-packed
returns-clause-packed g c = c.move_into.ensures.moved

pub returns-clause-left : goal.returns-clause-left
returns-clause-left g c = c.move_into.ensures.left
