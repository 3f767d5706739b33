use Rattle.std.proofs.Common.{ap, subst, sym, ◌∙◌}
use mir.Syntax.{of_param}
use Rattle.rcu_runtime_threads.specs.Stays.{HandStays}
use Rattle.rcu_runtime_threads.proofs.Sends.{quiet_either}
use Rattle.rcu_runtime_threads.proofs.threads.start_hand.Goals as goal

pub run_hand-requires-send-J : goal.run_hand-requires-send-J
run_hand-requires-send-J g c κs within = record { owned = c.type_bounds.send-J.owned; leaving = c.type_bounds.send-J.leaving }

pub run_hand-requires-send-J-Receipt : goal.run_hand-requires-send-J-Receipt
run_hand-requires-send-J-Receipt g c κs within = record { owned = c.type_bounds.send-S.owned; leaving = c.type_bounds.send-S.leaving }

pub run_hand-requires-after_bounds : goal.run_hand-requires-after_bounds
run_hand-requires-after_bounds g c κs within = assumption

pub spawn_with-requires-clause-runs : goal.spawn_with-requires-clause-runs
spawn_with-requires-clause-runs g c κs within = (assumption, ((record { owned = c.type_bounds.send-J.owned; leaving = λ k. quiet_either (k (of_param 0)) }, c.type_bounds.send-R, record { owned = c.type_bounds.send-S.owned; leaving = λ k. quiet_either (k (of_param 2)) }), (record { owned = c.type_bounds.send-J.owned; leaving = λ k. quiet_either (k (of_param 0)) }, c.type_bounds.send-R, record { owned = c.type_bounds.send-S.owned; leaving = λ k. quiet_either (k (of_param 2)) })))

pub run-requires-send-J : goal.run-requires-send-J
run-requires-send-J g c κs within = record { owned = c.type_bounds.send-J.owned; leaving = c.type_bounds.send-J.leaving }

pub run-requires-send-R : goal.run-requires-send-R
run-requires-send-R g c κs within = record { owned = c.type_bounds.send-R.owned; leaving = c.type_bounds.send-R.leaving }

pub run-requires-send-S : goal.run-requires-send-S
run-requires-send-S g c κs within = record { owned = c.type_bounds.send-S.owned; leaving = c.type_bounds.send-S.leaving }

pub spawn_with-requires-room-P-Promise : goal.spawn_with-requires-room-P-Promise
spawn_with-requires-room-P-Promise g c κs within = assumption

pub spawn_with-requires-room-F-FnOnce : goal.spawn_with-requires-room-F-FnOnce
spawn_with-requires-room-F-FnOnce g c κs within = assumption

pub spawn_with-requires-room-P-Destruct : goal.spawn_with-requires-room-P-Destruct
spawn_with-requires-room-P-Destruct g c κs within = assumption

pub spawn_with-requires-room-F-Destruct : goal.spawn_with-requires-room-F-Destruct
spawn_with-requires-room-F-Destruct g c κs within = assumption

pub spawn_with-requires-room-T-Destruct : goal.spawn_with-requires-room-T-Destruct
spawn_with-requires-room-T-Destruct g c κs within = assumption

pub run-requires-after_bounds : goal.run-requires-after_bounds
run-requires-after_bounds g c κs within = assumption

pub returns-in_default : goal.returns-in_default
returns-in_default g c = c.run_hand.ensures

pub spawn_with-requires-clause-keeps : goal.spawn_with-requires-clause-keeps
spawn_with-requires-clause-keeps g c κs within = λ r kept. subst (λ x. HandStays g.J.Job.key_of g.J.Job.gives x r) (sym c.of.ensures) kept

pub returns-in-Ok-spawn_with : goal.returns-in-Ok-spawn_with
returns-in-Ok-spawn_with g c = ap (λ p. p.0.value) c.in-Ok-spawn_with.ensures.ok ∙ c.of.ensures

pub returns-in-Err : goal.returns-in-Err
returns-in-Err g c = subst (λ x. HandStays g.J.Job.key_of g.J.Job.gives x c.run.result) (ap (λ kept. kept.0) c.in-Err.ensures.err) c.run.ensures
