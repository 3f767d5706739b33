use Rattle.rcu_part_threads.proofs.threads.fn.start_groups.run+FnOnce.call_once.Goals as goal

pub run-requires : goal.run-requires
run-requires g c = let clause = c.requires.1.1.1 in (clause.0.0, (clause.0.1, (c.requires.1.1.0, clause.0)))
