use Rattle.rcu_part_threads.proofs.threads.run_hand.Goals as goal

pub run-requires-send-J : goal.run-requires-send-J
run-requires-send-J g c κs within = assumption

pub run-requires-after_bounds : goal.run-requires-after_bounds
run-requires-after_bounds g c κs within = assumption
