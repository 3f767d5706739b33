use Rattle.rcu_runtime_threads.proofs.threads.fn.start_hand.run.Goals as goal

pub run_hand-requires-send-J : goal.run_hand-requires-send-J
run_hand-requires-send-J g c κs within = record { owned = c.requires.0.owned; leaving = c.requires.0.leaving }

pub run_hand-requires-send-J-Receipt : goal.run_hand-requires-send-J-Receipt
run_hand-requires-send-J-Receipt g c κs within = record { owned = c.requires.2.owned; leaving = c.requires.2.leaving }

pub run_hand-requires-after_bounds : goal.run_hand-requires-after_bounds
run_hand-requires-after_bounds g c κs within = assumption
