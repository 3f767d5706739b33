use Rattle.rcu_runtime_threads.proofs.or_drop.run_or_drop.Goals as goal

pub run_workers-requires-send-J : goal.run_workers-requires-send-J
run_workers-requires-send-J g c κs within = record { owned = c.type_bounds.send-J.owned; leaving = c.type_bounds.send-J.leaving }

pub run_workers-requires-send-W : goal.run_workers-requires-send-W
run_workers-requires-send-W g c κs within = record { owned = c.type_bounds.send-W.owned; leaving = c.type_bounds.send-W.leaving }

pub run_workers-requires-send-R : goal.run_workers-requires-send-R
run_workers-requires-send-R g c κs within = record { owned = c.type_bounds.send-R.owned; leaving = c.type_bounds.send-R.leaving }

pub run_workers-requires-send-S : goal.run_workers-requires-send-S
run_workers-requires-send-S g c κs within = record { owned = c.type_bounds.send-S.owned; leaving = c.type_bounds.send-S.leaving }

pub returns-in-Err-clause-fault : goal.returns-in-Err-clause-fault
returns-in-Err-clause-fault g c = (c.in-Err.refused.fault, c.in-Err.ensures.why, c.from.ensures)

pub run_workers-requires-after_bounds : goal.run_workers-requires-after_bounds
run_workers-requires-after_bounds g c κs within = assumption

pub drop-refused-requires-room-A-Wholeness : goal.drop-refused-requires-room-A-Wholeness
drop-refused-requires-room-A-Wholeness g c κs within = assumption

pub drop-refused-requires-room-A-Wholeness-2 : goal.drop-refused-requires-room-A-Wholeness-2
drop-refused-requires-room-A-Wholeness-2 g c κs within = assumption

pub drop-refused-requires-room-A-Wholeness-3 : goal.drop-refused-requires-room-A-Wholeness-3
drop-refused-requires-room-A-Wholeness-3 g c κs within = assumption

pub drop-refused-requires-room-A-Destruct : goal.drop-refused-requires-room-A-Destruct
drop-refused-requires-room-A-Destruct g c κs within = assumption

pub drop-refused-requires-room-A-Destruct-2 : goal.drop-refused-requires-room-A-Destruct-2
drop-refused-requires-room-A-Destruct-2 g c κs within = assumption

pub drop-refused-requires-room-A-Destruct-3 : goal.drop-refused-requires-room-A-Destruct-3
drop-refused-requires-room-A-Destruct-3 g c κs within = assumption

pub returns-in-Ok-clause-number : goal.returns-in-Ok-clause-number
returns-in-Ok-clause-number g c = c.in-Ok.ensures.number

pub returns-in-Ok-clause-continues : goal.returns-in-Ok-clause-continues
returns-in-Ok-clause-continues g c = c.in-Ok.ensures.continues

pub returns-in-Ok-clause-workers : goal.returns-in-Ok-clause-workers
returns-in-Ok-clause-workers g c = c.in-Ok.ensures.workers

pub returns-in-Ok-clause-unbegun : goal.returns-in-Ok-clause-unbegun
returns-in-Ok-clause-unbegun g c = c.in-Ok.ensures.unbegun

pub returns-in-Ok-clause-run : goal.returns-in-Ok-clause-run
returns-in-Ok-clause-run g c = c.in-Ok.ensures.run

pub returns-in-Ok-clause-drained : goal.returns-in-Ok-clause-drained
returns-in-Ok-clause-drained g c = c.in-Ok.ensures.drained

pub returns-in-Ok-clause-control : goal.returns-in-Ok-clause-control
returns-in-Ok-clause-control g c = c.in-Ok.ensures.control

pub returns-in-Ok-clause-ended : goal.returns-in-Ok-clause-ended
returns-in-Ok-clause-ended g c = c.in-Ok.ensures.ended

pub returns-in-Ok-clause-names : goal.returns-in-Ok-clause-names
returns-in-Ok-clause-names g c = c.in-Ok.ensures.names
