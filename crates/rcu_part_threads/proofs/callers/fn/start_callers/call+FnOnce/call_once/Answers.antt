use Rattle.rcu_part_threads.proofs.callers.fn.start_callers.call+FnOnce.call_once.Goals as goal

pub call-requires : goal.call-requires
call-requires g c = let clause = c.requires.1.1.1 in (clause.0.0, (clause.0.1, (c.requires.1.1.0, clause.0)))
