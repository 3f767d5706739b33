use Rattle.rcu_runtime_threads.proofs.threads.fn.start_post.run.Goals as goal

pub run_post-requires-send-J : goal.run_post-requires-send-J
run_post-requires-send-J g c κs within = record { owned = c.requires.0.owned; leaving = c.requires.0.leaving }

pub run_post-requires-send-J-Receipt : goal.run_post-requires-send-J-Receipt
run_post-requires-send-J-Receipt g c κs within = record { owned = c.requires.3.owned; leaving = c.requires.3.leaving }

pub run_post-requires-send-W : goal.run_post-requires-send-W
run_post-requires-send-W g c κs within = record { owned = c.requires.1.owned; leaving = c.requires.1.leaving }

pub run_post-requires-after_bounds : goal.run_post-requires-after_bounds
run_post-requires-after_bounds g c κs within = assumption
