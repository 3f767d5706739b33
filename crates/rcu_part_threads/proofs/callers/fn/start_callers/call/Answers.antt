use Rattle.rcu_part_threads.proofs.callers.fn.start_callers.call.Goals as goal

pub call_all-requires-send-J : goal.call_all-requires-send-J
call_all-requires-send-J g c κs within = record { owned = c.requires.0.owned; leaving = c.requires.0.leaving }

pub call_all-requires-after_bounds : goal.call_all-requires-after_bounds
call_all-requires-after_bounds g c κs within = assumption
