use Rattle.rcu_part_threads.proofs.threads.fn.start_groups.run.Goals as goal

pub run_group-requires-send-J : goal.run_group-requires-send-J
run_group-requires-send-J g c κs within = record { owned = c.requires.0.owned; leaving = c.requires.0.leaving }

pub run_group-requires-after_bounds : goal.run_group-requires-after_bounds
run_group-requires-after_bounds g c κs within = assumption
