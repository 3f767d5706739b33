use Rattle.std.proofs.Common.{◌≡◌, ◌∙◌, ap, length, refl, subst, sym}
use Rattle.std.specs.Prelude.{vec_len}
use mir.Syntax.{of_param}
use Rattle.rcu_runtime.proofs.Wholes.{continues_itself}
use Rattle.rcu_runtime.specs.Runtimes.{Continues}
use Rattle.rcu_parts.specs.OneOpen.{processors_in}
use Rattle.rcu_runtime_threads.specs.Faults.{ComesBack, HaveEnded, IsLate, IsWhy}
use Rattle.rcu_runtime_threads.proofs.Backs.{all_come_back, as_many_back, continues_either, early_back, early_ends, early_why, ended_back, ended_come, if_err, if_err_both, if_ok, late_back, late_ends, late_why, named_back, named_come, none_ended, unbegun_back, unbegun_come}
use Rattle.rcu_runtime_threads.proofs.Runs.{worked_continues, worked_whole}
use Rattle.rcu_runtime_threads.proofs.Steered.{early_control, if_ok_both, late_control, runs_control}
use Rattle.rcu_runtime_threads.specs.Steers.{LooksBy, LooksIf, RunsControl, StopsControl}
use Rattle.std.proofs.Common.{true}
use Rattle.rcu_runtime_threads.proofs.worked.run_workers.Goals as goal

pub put_together-requires-clause-whole : goal.put_together-requires-clause-whole
put_together-requires-clause-whole g c κs within = (assumption, (assumption, (assumption, c.take_apart-parts.ensures.whole)))

pub returns-in-Err-clause-continues : goal.returns-in-Err-clause-continues
returns-in-Err-clause-continues g c = subst (Continues c.args.runtime) (sym (c.put_together.ensures ∙ c.take_apart-parts.ensures.parts)) (continues_itself c.args.runtime)

pub returns-in-Err-clause-back : goal.returns-in-Err-clause-back
returns-in-Err-clause-back g c = early_back (vec_len c.take_apart-parts.result.0.processors) c.len.result c.in-Err.fault c.args.runtime c.put_together.result c.args.workers.items c.args.workers.items c.in-Err.ensures.fault (c.put_together.ensures ∙ c.take_apart-parts.ensures.parts) refl

pub put_together-runtime-requires-clause-whole : goal.put_together-runtime-requires-clause-whole
put_together-runtime-requires-clause-whole g c κs within = (assumption, (assumption, (assumption, worked_whole g.J.Job.key_of g.J.Job.gives c.take_apart-parts.result.0 c.run_parts-ran.result.parts c.run_parts-ran.ensures.parts c.take_apart-parts.result.1 c.take_apart-parts.ensures.whole)))

pub returns-clause-continues : goal.returns-clause-continues
returns-clause-continues g c = let apart = c.take_apart-parts in let ran = worked_continues g.J.Job.key_of g.J.Job.gives apart.result.0 c.run_parts-ran.result.parts c.run_parts-ran.ensures.parts apart.ensures.whole.close.one in
    let on = subst (Continues c.args.runtime) (sym c.put_together-runtime.ensures) (subst (λ x. Continues x c.run_parts-ran.result.parts) apart.ensures.parts ran) in
    continues_either (λ w. w.runtime) (λ refused. refused.worked.runtime) c.args.runtime c.put_together-runtime.result on c.answer.result c.answer.ensures.continues

pub returns-clause-back : goal.returns-clause-back
returns-clause-back g c = if_err (λ refused. IsLate c.run_parts-ran.result.has_begun c.args.ending refused.fault) (λ refused. ComesBack refused.fault c.args.runtime refused.worked.runtime c.args.workers.items refused.worked.workers.items)
    (λ refused late. late_back c.run_parts-ran.result.has_begun c.args.ending refused.fault c.args.runtime refused.worked.runtime c.args.workers.items refused.worked.workers.items late) c.answer.result c.answer.ensures.fault

pub returns-in-Err-clause-why : goal.returns-in-Err-clause-why
returns-in-Err-clause-why g c = let same = c.take_apart-parts.result.0.processors.ok.0 ∙ ap (λ parts. length (processors_in parts)) c.take_apart-parts.ensures.parts in
    subst (λ n. IsWhy n (vec_len c.args.workers) c.args.ending c.in-Err.fault) same (subst (λ m. IsWhy (vec_len c.take_apart-parts.result.0.processors) m c.args.ending c.in-Err.fault) c.len.ensures
    (early_why (vec_len c.take_apart-parts.result.0.processors) c.len.result c.args.ending c.in-Err.fault c.in-Err.ensures.fault))

pub returns-in-Err-clause-ends : goal.returns-in-Err-clause-ends
returns-in-Err-clause-ends g c = early_ends (vec_len c.take_apart-parts.result.0.processors) c.len.result (vec_len c.args.workers) c.in-Err.fault c.new.result c.in-Err.ensures.fault c.new.ensures.items

pub returns-clause-number : goal.returns-clause-number
returns-clause-number g c = if_ok (vec_len c.args.workers ≡ length (processors_in c.args.runtime)) (sym c.len.ensures ∙ (c.in-Ok.ensures.many ∙ (c.take_apart-parts.result.0.processors.ok.0 ∙ ap (λ parts. length (processors_in parts)) c.take_apart-parts.ensures.parts))) c.answer.result

pub returns-clause-why : goal.returns-clause-why
returns-clause-why g c = let same = sym c.len.ensures ∙ (c.in-Ok.ensures.many ∙ (c.take_apart-parts.result.0.processors.ok.0 ∙ ap (λ parts. length (processors_in parts)) c.take_apart-parts.ensures.parts)) in
    if_err (λ refused. IsLate c.run_parts-ran.result.has_begun c.args.ending refused.fault) (λ refused. IsWhy (length (processors_in c.args.runtime)) (vec_len c.args.workers) c.args.ending refused.fault)
    (λ refused late. late_why (length (processors_in c.args.runtime)) (vec_len c.args.workers) c.run_parts-ran.result.has_begun c.args.ending refused.fault same late) c.answer.result c.answer.ensures.fault

pub returns-clause-ends : goal.returns-clause-ends
returns-clause-ends g c = let ran = c.run_parts-ran in
    if_err_both (λ refused. IsLate c.run_parts-ran.result.has_begun c.args.ending refused.fault) (λ refused. refused.worked.ends ≡ ran.result.ends) (λ refused. HaveEnded refused.fault (vec_len c.args.workers) refused.worked.ends.items)
    (λ refused late same. late_ends (vec_len c.args.workers) c.run_parts-ran.result.has_begun c.args.ending refused.fault refused.worked.ends late (ap (λ v. vec_len v) same ∙ ran.ensures.workers.ends)) c.answer.result c.answer.ensures.fault c.answer.ensures.ends

pub returns-clause-workers : goal.returns-clause-workers
returns-clause-workers g c = let ran = c.run_parts-ran in all_come_back c.args.workers ran.result.workers ran.result.ends ran.ensures.workers (λ w. w.workers) (λ w. w.ends) c.answer.result c.answer.ensures.workers

pub returns-clause-as_many : goal.returns-clause-as_many
returns-clause-as_many g c = let ran = c.run_parts-ran in as_many_back c.args.workers ran.result.workers ran.result.ends ran.ensures.workers (λ refused. refused.worked.workers) c.answer.result c.answer.ensures.back

pub returns-clause-run : goal.returns-clause-run
returns-clause-run g c = c.answer.ensures.run

pub returns-clause-drained : goal.returns-clause-drained
returns-clause-drained g c = c.answer.ensures.drained

pub take_apart-parts-requires-send-J : goal.take_apart-parts-requires-send-J
take_apart-parts-requires-send-J g c κs within = record { owned = c.type_bounds.send-J.owned; leaving = c.type_bounds.send-J.leaving }

pub take_apart-parts-requires-send-J-Receipt : goal.take_apart-parts-requires-send-J-Receipt
take_apart-parts-requires-send-J-Receipt g c κs within = record { owned = c.type_bounds.send-S.owned; leaving = λ k. c.type_bounds.send-S.leaving (λ _. k (of_param 1)) }

pub put_together-requires-send-J : goal.put_together-requires-send-J
put_together-requires-send-J g c κs within = record { owned = c.type_bounds.send-J.owned; leaving = c.type_bounds.send-J.leaving }

pub put_together-requires-send-J-Receipt : goal.put_together-requires-send-J-Receipt
put_together-requires-send-J-Receipt g c κs within = record { owned = c.type_bounds.send-S.owned; leaving = λ k. c.type_bounds.send-S.leaving (λ _. k (of_param 1)) }

pub put_together-runtime-requires-send-J : goal.put_together-runtime-requires-send-J
put_together-runtime-requires-send-J g c κs within = record { owned = c.type_bounds.send-J.owned; leaving = c.type_bounds.send-J.leaving }

pub put_together-runtime-requires-send-J-Receipt : goal.put_together-runtime-requires-send-J-Receipt
put_together-runtime-requires-send-J-Receipt g c κs within = record { owned = c.type_bounds.send-S.owned; leaving = λ k. c.type_bounds.send-S.leaving (λ _. k (of_param 1)) }

pub take_apart-parts-requires-after_bounds : goal.take_apart-parts-requires-after_bounds
take_apart-parts-requires-after_bounds g c κs within = assumption

pub find_room-requires-send-J : goal.find_room-requires-send-J
find_room-requires-send-J g c κs within = record { owned = c.type_bounds.send-J.owned; leaving = c.type_bounds.send-J.leaving }

pub find_room-requires-send-W : goal.find_room-requires-send-W
find_room-requires-send-W g c κs within = record { owned = c.type_bounds.send-W.owned; leaving = c.type_bounds.send-W.leaving }

pub find_room-requires-send-J-Receipt : goal.find_room-requires-send-J-Receipt
find_room-requires-send-J-Receipt g c κs within = record { owned = c.type_bounds.send-S.owned; leaving = λ k. c.type_bounds.send-S.leaving (λ _. k (of_param 2)) }

pub find_room-requires-after_bounds : goal.find_room-requires-after_bounds
find_room-requires-after_bounds g c κs within = assumption

pub run_parts-ran-requires-send-J : goal.run_parts-ran-requires-send-J
run_parts-ran-requires-send-J g c κs within = record { owned = c.type_bounds.send-J.owned; leaving = c.type_bounds.send-J.leaving }

pub run_parts-ran-requires-send-W : goal.run_parts-ran-requires-send-W
run_parts-ran-requires-send-W g c κs within = record { owned = c.type_bounds.send-W.owned; leaving = c.type_bounds.send-W.leaving }

pub run_parts-ran-requires-send-R : goal.run_parts-ran-requires-send-R
run_parts-ran-requires-send-R g c κs within = record { owned = c.type_bounds.send-R.owned; leaving = c.type_bounds.send-R.leaving }

pub run_parts-ran-requires-send-S : goal.run_parts-ran-requires-send-S
run_parts-ran-requires-send-S g c κs within = record { owned = c.type_bounds.send-S.owned; leaving = c.type_bounds.send-S.leaving }

pub run_parts-ran-requires-after_bounds : goal.run_parts-ran-requires-after_bounds
run_parts-ran-requires-after_bounds g c κs within = let room = c.in-Ok.ensures in
    (assumption, (assumption, (assumption, (sym c.len.ensures ∙ room.many, (room.posts, (room.at_posts, (room.halves, room.others)))))))

pub answer-requires-send-J : goal.answer-requires-send-J
answer-requires-send-J g c κs within = record { owned = c.type_bounds.send-J.owned; leaving = c.type_bounds.send-J.leaving }

pub answer-requires-send-W : goal.answer-requires-send-W
answer-requires-send-W g c κs within = record { owned = c.type_bounds.send-W.owned; leaving = c.type_bounds.send-W.leaving }

pub answer-requires-send-J-Receipt : goal.answer-requires-send-J-Receipt
answer-requires-send-J-Receipt g c κs within = record { owned = c.type_bounds.send-S.owned; leaving = λ k. c.type_bounds.send-S.leaving (λ _. k (of_param 2)) }

pub answer-requires-after_bounds : goal.answer-requires-after_bounds
answer-requires-after_bounds g c κs within = assumption

pub returns-in-Err-clause-unbegun_back : goal.returns-in-Err-clause-unbegun_back
returns-in-Err-clause-unbegun_back g c = λ k none. refl

pub returns-clause-unbegun : goal.returns-clause-unbegun
returns-clause-unbegun g c = let ran = c.run_parts-ran in unbegun_come c.args.workers ran.result.workers ran.result.ends ran.ensures.unbegun (λ w. w.workers) (λ w. w.ends) c.answer.result c.answer.ensures.workers

pub returns-clause-unbegun_back : goal.returns-clause-unbegun_back
returns-clause-unbegun_back g c = let ran = c.run_parts-ran in
    unbegun_back c.args.workers ran.result.workers ran.result.ends ran.ensures.unbegun (λ refused. refused.worked.workers) (λ refused. refused.worked.ends) c.answer.result c.answer.ensures.back c.answer.ensures.ends

pub returns-in-Err-clause-control_back : goal.returns-in-Err-clause-control_back
returns-in-Err-clause-control_back g c =
    early_control g.G.Steering.may c.args.ending (vec_len c.take_apart-parts.result.0.processors) c.len.result c.in-Err.fault c.args.runtime c.put_together.result c.in-Err.ensures.fault (c.put_together.ensures ∙ c.take_apart-parts.ensures.parts)

pub returns-clause-control : goal.returns-clause-control
returns-clause-control g c = let may = g.G.Steering.may in let ran = c.run_parts-ran.result in let whole = c.put_together-runtime.result in
    if_ok_both (λ w. ran.has_begun ≡ true) (λ w. LooksBy c.args.ending whole w.runtime) (λ w. RunsControl may c.args.ending c.args.runtime w.runtime)
    (λ w is looks. runs_control may c.args.ending c.args.runtime c.take_apart-parts.result.0 ran.parts whole c.take_apart-parts.ensures.parts c.put_together-runtime.ensures ran.has_begun w.runtime is c.run_parts-ran.ensures.control looks)
    c.answer.result c.answer.ensures.begun c.answer.ensures.looks

pub returns-clause-control_back : goal.returns-clause-control_back
returns-clause-control_back g c = let may = g.G.Steering.may in let ran = c.run_parts-ran.result in let whole = c.put_together-runtime.result in
    if_err_both (λ refused. IsLate ran.has_begun c.args.ending refused.fault) (λ refused. LooksIf ran.has_begun c.args.ending whole refused.worked.runtime)
    (λ refused. StopsControl may c.args.ending refused.fault c.args.runtime refused.worked.runtime)
    (λ refused late looks. late_control may c.args.ending c.args.runtime c.take_apart-parts.result.0 ran.parts whole c.take_apart-parts.ensures.parts c.put_together-runtime.ensures ran.has_begun refused.fault refused.worked.runtime late c.run_parts-ran.ensures.control looks)
    c.answer.result c.answer.ensures.fault c.answer.ensures.looks_back

pub returns-in-Err-clause-ended_back : goal.returns-in-Err-clause-ended_back
returns-in-Err-clause-ended_back g c = none_ended g.W.Worker.ends_as c.args.workers c.new.result c.new.ensures.items

pub returns-clause-ended : goal.returns-clause-ended
returns-clause-ended g c = let ran = c.run_parts-ran in ended_come g.W.Worker.ends_as ran.result.workers ran.result.ends ran.ensures.ended (λ w. w.workers) (λ w. w.ends) c.answer.result c.answer.ensures.workers

pub returns-clause-ended_back : goal.returns-clause-ended_back
returns-clause-ended_back g c = let ran = c.run_parts-ran in
    ended_back g.W.Worker.ends_as ran.result.workers ran.result.ends ran.ensures.ended (λ refused. refused.worked.workers) (λ refused. refused.worked.ends) c.answer.result c.answer.ensures.back c.answer.ensures.ends

pub returns-in-Err-clause-names_back : goal.returns-in-Err-clause-names_back
returns-in-Err-clause-names_back g c = refl

pub returns-clause-names : goal.returns-clause-names
returns-clause-names g c = let ran = c.run_parts-ran in named_come g.W.Worker.name_of c.args.workers ran.result.workers ran.ensures.names (λ w. w.workers) (λ w. w.ends) ran.result.ends c.answer.result c.answer.ensures.workers

pub returns-clause-names_back : goal.returns-clause-names_back
returns-clause-names_back g c = let ran = c.run_parts-ran in named_back g.W.Worker.name_of c.args.workers ran.result.workers ran.ensures.names (λ refused. refused.worked.workers) c.answer.result c.answer.ensures.back
