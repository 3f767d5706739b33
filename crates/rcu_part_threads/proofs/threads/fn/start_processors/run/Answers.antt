use Rattle.rcu_part_threads.proofs.threads.fn.start_processors.run.Goals as goal

pub run_processor-requires-send-J : goal.run_processor-requires-send-J
run_processor-requires-send-J g c κs within = record { owned = c.requires.0.owned; leaving = c.requires.0.leaving }

pub run_processor-requires-after_bounds : goal.run_processor-requires-after_bounds
run_processor-requires-after_bounds g c κs within = assumption
