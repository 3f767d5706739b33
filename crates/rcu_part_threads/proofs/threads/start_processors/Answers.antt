use Rattle.rcu_part_threads.proofs.threads.start_processors.Goals as goal

pub start_all-requires-room-P-Runs : goal.start_all-requires-room-P-Runs
start_all-requires-room-P-Runs g c κs within = assumption

pub start_all-requires-room-P-Destruct : goal.start_all-requires-room-P-Destruct
start_all-requires-room-P-Destruct g c κs within = assumption

pub start_all-requires-room-P-Back-Destruct : goal.start_all-requires-room-P-Back-Destruct
start_all-requires-room-P-Back-Destruct g c κs within = assumption

pub returns : goal.returns
returns g c = c.start_all.ensures
