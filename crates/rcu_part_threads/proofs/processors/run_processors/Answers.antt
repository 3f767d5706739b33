use Rattle.std.proofs.Common.{inl, inr, map, refl, subst, sym}
use Rattle.std.proofs.lemmas.Result.{MatchResult-from_err}
use Rattle.std.specs.List.{AllZip}
use Rattle.rcu_part_control.specs.Parts.{control_view}
use Rattle.rcu_board.proofs.Stepping.{same_again}
use Rattle.rcu_part_threads.specs.Calls.{HasAnswered, HasCalled}
use Rattle.rcu_part_threads.specs.Parts.{ProcessorStays}
use Rattle.rcu_part_threads.specs.Runs.{AreOver}
use Rattle.rcu_part_threads.proofs.Answering.{all_answered}
use Rattle.rcu_part_threads.proofs.Tickets.{all_run}
use Rattle.rcu_part_threads.proofs.Zips.{zip_kept, zip_mapped}
use Rattle.rcu_lists.proofs.Outcomes.{if_ok_never}
use Rattle.rcu_part_threads.proofs.processors.run_processors.Goals as goal

pub start_callers-callers-requires-send-J : goal.start_callers-callers-requires-send-J
start_callers-callers-requires-send-J g c κs within = assumption

pub start_callers-callers-requires-send-R : goal.start_callers-callers-requires-send-R
start_callers-callers-requires-send-R g c κs within = assumption

pub join_callers-requires-send-J : goal.join_callers-requires-send-J
join_callers-requires-send-J g c κs within = assumption

pub start_processors-crew-requires-send-J : goal.start_processors-crew-requires-send-J
start_processors-crew-requires-send-J g c κs within = assumption

pub start_processors-crew-requires-send-R : goal.start_processors-crew-requires-send-R
start_processors-crew-requires-send-R g c κs within = assumption

pub start_processors-crew-requires-after_bounds : goal.start_processors-crew-requires-after_bounds
start_processors-crew-requires-after_bounds g c κs within = assumption

pub returns-clause-ran : goal.returns-clause-ran
returns-clause-ran g c = let key_of = g.J.Job.key_of in let gives = g.J.Job.gives in let tickets = c.in_ok-all.all.tickets.items in
    let callers = c.args.callers.items in let called = c.in_ok-all.all.called.items in let qs = c.in-Ok.answered.processors.items in let rs = c.in_ok-processors.processors.items in
    let v = control_view c.pass_barrier-passed.new.control in let w = control_view c.finish.new.self in
    let over = subst (AreOver v) c.as_slice.ensures.value c.in_ok-passed.ensures.passed in
    let joined = zip_kept (λ t. t.promise.0.value) (λ t x. HasCalled key_of gives tickets t.promise.0.value.processor x.processor) (λ y x. HasCalled key_of gives tickets y.processor x.processor) (λ t x kept. kept) callers c.start_callers-callers.result.threads.items called (c.start_callers-callers.ensures c.in_ok-all.ensures.whole) c.in_ok-all.ensures.called in
    let calls = subst (AllZip (HasCalled key_of gives tickets) (map (λ y. y.processor) callers)) (sym c.in-Ok.ensures.processors) (zip_mapped (λ y. y.processor) (λ x. x.processor) (HasCalled key_of gives tickets) callers called joined) in
    let stayed = zip_kept (λ t. t.promise.0.value) (λ t q. ProcessorStays key_of gives t.promise.0.value q) (ProcessorStays key_of gives) (λ t q kept. kept) qs c.start_processors-crew.result.threads.items rs (c.start_processors-crew.ensures c.in_ok-processors.ensures.whole) c.in_ok-processors.ensures.kept in
    all_run key_of gives v w 1 tickets (map (λ y. y.processor) callers) qs rs c.finish.ensures.halts over calls stayed

pub returns-clause-answered : goal.returns-clause-answered
returns-clause-answered g c = let key_of = g.J.Job.key_of in let gives = g.J.Job.gives in
    let callers = c.args.callers.items in let called = c.in_ok-all.all.called.items in let qs = c.in-Ok.answered.processors.items in let rs = c.in_ok-processors.processors.items in
    let joined = zip_kept (λ t. t.promise.0.value) (λ t x. HasAnswered key_of gives t.promise.0.value.jobs.items x.answers.items t.promise.0.value.processor x.processor) (λ y x. HasAnswered key_of gives y.jobs.items x.answers.items y.processor x.processor) (λ t x kept. kept) callers c.start_callers-callers.result.threads.items called (c.start_callers-callers.ensures c.in_ok-all.ensures.whole) c.in_ok-all.ensures.answered in
    let stayed = zip_kept (λ t. t.promise.0.value) (λ t q. ProcessorStays key_of gives t.promise.0.value q) (ProcessorStays key_of gives) (λ t q kept. kept) qs c.start_processors-crew.result.threads.items rs (c.start_processors-crew.ensures c.in_ok-processors.ensures.whole) c.in_ok-processors.ensures.kept in
    λ none. all_answered key_of gives (λ y. y.processor) (λ y. y.jobs.items) (λ x. x.processor) (λ x. x.answers.items) callers called qs rs (map (λ own. own.items) c.in-Ok.answered.answers.items) c.in-Ok.ensures.processors c.in-Ok.ensures.answers joined stayed none

pub drop-processors-requires-room-T-Destruct : goal.drop-processors-requires-room-T-Destruct
drop-processors-requires-room-T-Destruct g c κs within = assumption

pub start_callers-callers-requires-after_bounds : goal.start_callers-callers-requires-after_bounds
start_callers-callers-requires-after_bounds g c κs within = assumption

pub join_callers-requires-after_bounds : goal.join_callers-requires-after_bounds
join_callers-requires-after_bounds g c κs within = assumption

pub join_all-requires-room-P-Promise : goal.join_all-requires-room-P-Promise
join_all-requires-room-P-Promise g c κs within = assumption

pub join_all-requires-room-T-Destruct : goal.join_all-requires-room-T-Destruct
join_all-requires-room-T-Destruct g c κs within = assumption

pub returns-in_err-processors-clause-same : goal.returns-in_err-processors-clause-same
returns-in_err-processors-clause-same g c = same_again _ _ _ _ _ _ c.pass_barrier-passed.ensures.same c.finish.ensures.same

pub returns-in_err-passed-clause-same : goal.returns-in_err-passed-clause-same
returns-in_err-passed-clause-same g c = same_again _ _ _ _ _ _ c.pass_barrier-passed.ensures.same c.finish.ensures.same

pub returns-clause-same : goal.returns-clause-same
returns-clause-same g c = same_again _ _ _ _ _ _ c.pass_barrier-passed.ensures.same c.finish.ensures.same

pub drop-callers-requires-room-T-Destruct : goal.drop-callers-requires-room-T-Destruct
drop-callers-requires-room-T-Destruct g c κs within = assumption

pub split-requires-room-P-Destruct : goal.split-requires-room-P-Destruct
split-requires-room-P-Destruct g c κs within = assumption

pub returns-in_err-all-clause-ran : goal.returns-in_err-all-clause-ran
returns-in_err-all-clause-ran g c = if_ok_never _ _ c.from_residual.ensures

pub returns-in_err-all-clause-answered : goal.returns-in_err-all-clause-answered
returns-in_err-all-clause-answered g c = λ none. if_ok_never _ _ c.from_residual.ensures

pub returns-in_err-processors-clause-ran : goal.returns-in_err-processors-clause-ran
returns-in_err-processors-clause-ran g c = if_ok_never _ _ c.from_residual-in_err-processors.ensures

pub returns-in_err-processors-clause-answered : goal.returns-in_err-processors-clause-answered
returns-in_err-processors-clause-answered g c = λ none. if_ok_never _ _ c.from_residual-in_err-processors.ensures

pub returns-in_err-passed-clause-ran : goal.returns-in_err-passed-clause-ran
returns-in_err-passed-clause-ran g c = if_ok_never _ _ c.from_residual-in_err-passed.ensures

pub returns-in_err-passed-clause-answered : goal.returns-in_err-passed-clause-answered
returns-in_err-passed-clause-answered g c = λ none. if_ok_never _ _ c.from_residual-in_err-passed.ensures

pub returns-clause-control : goal.returns-clause-control
returns-clause-control g c = (
  c.as_slice.result.now,
  record {
    between = c.pass_barrier-passed.new.control;
    before = c.in_ok-passed.ensures.control;
    halts = c.finish.ensures.halts;
  },
)

pub returns-in_err-all-clause-control : goal.returns-in_err-all-clause-control
returns-in_err-all-clause-control g c = MatchResult-from_err _ _ _ c.from_residual.ensures.0 (λ fault. inl refl)

pub returns-in_err-processors-clause-control : goal.returns-in_err-processors-clause-control
returns-in_err-processors-clause-control g c = MatchResult-from_err _ _ _ c.from_residual-in_err-processors.ensures.0 (λ fault. inr (
  c.pass_barrier-passed.result,
  c.as_slice.result.now,
  record {
    between = c.pass_barrier-passed.new.control;
    before = c.pass_barrier-passed.ensures.control;
    halts = c.finish.ensures.halts;
  },
))

pub returns-in_err-passed-clause-control : goal.returns-in_err-passed-clause-control
returns-in_err-passed-clause-control g c = MatchResult-from_err _ _ _ c.from_residual-in_err-passed.ensures.0 (λ fault. inr (
  c.pass_barrier-passed.result,
  c.as_slice.result.now,
  record {
    between = c.pass_barrier-passed.new.control;
    before = c.pass_barrier-passed.ensures.control;
    halts = c.finish.ensures.halts;
  },
))
