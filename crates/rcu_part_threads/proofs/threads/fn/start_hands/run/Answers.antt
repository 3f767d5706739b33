use Rattle.rcu_part_threads.proofs.threads.fn.start_hands.run.Goals as goal

pub run_hand-requires-send-J : goal.run_hand-requires-send-J
run_hand-requires-send-J g c κs within = record { owned = c.requires.0.owned; leaving = c.requires.0.leaving }

pub run_hand-requires-after_bounds : goal.run_hand-requires-after_bounds
run_hand-requires-after_bounds g c κs within = assumption
