use Rattle.std.proofs.Common.{◌≡◌, ℕ, ◌<◌, length, map, ap, sym, subst, arith}
use Rattle.std.specs.Prelude.{All}
use Rattle.std.specs.List.{AllZip}
use Rattle.std.proofs.lemmas.List.{length-map}
use Rattle.std.proofs.lemmas.Result.{IfOk-at_ok, MatchResult-at_ok}
use Rattle.rcu_part_processor.specs.declared.processor.Processor.{Processor}
use Rattle.rcu_board.proofs.Stepping.{same_again}
use Rattle.rcu_part_control.specs.Parts.{control_view}
use Rattle.rcu_part_threads.specs.Parts.{GroupStays, HandStays}
use Rattle.rcu_part_threads.specs.Runs.{HasRun}
use Rattle.rcu_part_threads.proofs.Tickets.{all_halted, driver_kept}
use Rattle.rcu_part_threads.proofs.Zips.{zip_kept}
use Rattle.rcu_threads.proofs.Ending.{tickets_of_each}
use Rattle.rcu_threads.proofs.threads.run_parts.Goals as goal
use Rattle.rcu_lemmas.proofs.All.{All-unmap}
use Rattle.rcu_lists.proofs.Outcomes.{if_ok_never}

pub start_groups-groups-requires-send-J : goal.start_groups-groups-requires-send-J
start_groups-groups-requires-send-J g c κs within = assumption

pub start_groups-groups-requires-send-R : goal.start_groups-groups-requires-send-R
start_groups-groups-requires-send-R g c κs within = assumption

pub start_hands-hands-requires-send-J : goal.start_hands-hands-requires-send-J
start_hands-hands-requires-send-J g c κs within = assumption

pub start_hands-hands-requires-send-R : goal.start_hands-hands-requires-send-R
start_hands-hands-requires-send-R g c κs within = assumption

pub run_processors-answered-requires-send-J : goal.run_processors-answered-requires-send-J
run_processors-answered-requires-send-J g c κs within = assumption

pub run_processors-answered-requires-send-R : goal.run_processors-answered-requires-send-R
run_processors-answered-requires-send-R g c κs within = assumption

pub start_groups-groups-requires-after_bounds : goal.start_groups-groups-requires-after_bounds
start_groups-groups-requires-after_bounds g c κs within = assumption

pub start_hands-hands-requires-after_bounds : goal.start_hands-hands-requires-after_bounds
start_hands-hands-requires-after_bounds g c κs within = assumption

pub run_processors-answered-requires-after_bounds : goal.run_processors-answered-requires-after_bounds
run_processors-answered-requires-after_bounds g c κs within = assumption

pub returns-clause-ran : goal.returns-clause-ran
returns-clause-ran g c = let key_of = g.J.Job.key_of in let gives = g.J.Job.gives in let parts = c.args.parts in let rs = c.unwrap-answered.result.processors.items in
    -- what each of the four gave
    let driver = MatchResult-at_ok _ _ _ c.unwrap-driver.ensures c.join_driver-driver.ensures in
    let groups = IfOk-at_ok _ c.unwrap-groups.ensures c.join_all-groups.ensures.whole in
    let groups_kept = IfOk-at_ok _ c.unwrap-groups.ensures c.join_all-groups.ensures.kept in
    let hands = IfOk-at_ok _ c.unwrap-hands.ensures c.join_all-hands.ensures.whole in
    let hands_kept = IfOk-at_ok _ c.unwrap-hands.ensures c.join_all-hands.ensures.kept in
    let have_run = IfOk-at_ok _ c.unwrap-answered.ensures c.run_processors-answered.ensures.ran in
    let passes = MatchResult-at_ok _ _ _ c.unwrap-answered.ensures c.run_processors-answered.ensures.control in
    let v = control_view c.run_processors-answered.new.control in
    let ran = subst (λ ps. AllZip (HasRun key_of gives v) ps rs) c.in_ok-callers.ensures.processors have_run in record {
      control = same_again _ _ _ _ _ _ c.run_processors-answered.ensures.same c.finish.ensures.same;
      passes = record { between = c.run_processors-answered.new.control; before = passes; halts = c.finish.ensures.halts };
      driver = driver_kept (λ t. t.promise.0.value) c.start_driver-driver.result parts.driver c.unwrap-driver.result c.start_driver-driver.ensures driver;
      groups = zip_kept (λ t. t.promise.0.value) (λ t q. GroupStays t.promise.0.value q) GroupStays (λ t q kept. kept) parts.groups.items c.start_groups-groups.result.threads.items c.unwrap-groups.result.items (c.start_groups-groups.ensures groups) groups_kept;
      hands = zip_kept (λ t. t.promise.0.value) (λ t q. HandStays key_of gives t.promise.0.value q) (HandStays key_of gives) (λ t q kept. kept) parts.hands.items c.start_hands-hands.result.threads.items c.unwrap-hands.result.items (c.start_hands-hands.ensures hands) hands_kept;
      processors = all_halted key_of gives v (control_view c.finish.new.self) 1 parts.processors.items rs c.finish.ensures.halts ran;
    }

pub returns-clause-answered : goal.returns-clause-answered
returns-clause-answered g c = λ unused. let callers = c.in_ok-callers.callers.items in let ps = c.args.parts.processors.items in
    let Unused : Processor g.row.J.Denot ℕ → Type 0 = λ p. p.state.accepted ≡ 0 in
    let none = All-unmap Unused (λ y. y.processor) callers (subst (λ l. All Unused l) (sym c.in_ok-callers.ensures.processors) unused) in
    let answered = IfOk-at_ok _ c.unwrap-answered.ensures (c.run_processors-answered.ensures.answered none) in
    let some : 0 < length ps = subst (λ n. 0 < n) c.args.parts.processors.ok.0 c.in_ok-callers.ensures.some in
    let many = ap (λ l. length l) c.in_ok-callers.ensures.processors in
    let key_of = g.J.Job.key_of in let gives = g.J.Job.gives in let v = control_view c.run_processors-answered.new.control in
    let have_run = IfOk-at_ok _ c.unwrap-answered.ensures c.run_processors-answered.ensures.ran in
    let ran = subst (λ xs. AllZip (HasRun key_of gives v) xs c.unwrap-answered.result.processors.items) c.in_ok-callers.ensures.processors have_run in
    let jobs = length-map callers (λ y. y.jobs.items) in let parts = length-map callers (λ y. y.processor) in record {
      shares = map (λ y. y.jobs.items) callers;
      some = omega (arith, some, many, jobs, parts);
      dealt = c.in_ok-callers.ensures.dealt;
      answered = answered.answered;
      tickets = tickets_of_each key_of gives v c.args.parts c.unwrap-answered.result.processors.items (map (λ own. own.items) c.unwrap-answered.result.answers.items) c.requires.parts ran answered.tickets;
      accepted = answered.keys;
    }

pub returns-clause-refused : goal.returns-clause-refused
returns-clause-refused g c = λ unused. let callers = c.in_ok-callers.callers.items in
    let Unused : Processor g.row.J.Denot ℕ → Type 0 = λ p. p.state.accepted ≡ 0 in
    let none = All-unmap Unused (λ y. y.processor) callers (subst (λ l. All Unused l) (sym c.in_ok-callers.ensures.processors) unused) in
    let answered = IfOk-at_ok _ c.unwrap-answered.ensures (c.run_processors-answered.ensures.answered none) in answered.why

pub join_all-groups-requires-room-P-Promise : goal.join_all-groups-requires-room-P-Promise
join_all-groups-requires-room-P-Promise g c κs within = assumption

pub join_all-groups-requires-room-T-Destruct : goal.join_all-groups-requires-room-T-Destruct
join_all-groups-requires-room-T-Destruct g c κs within = assumption

pub join_all-hands-requires-room-P-Promise : goal.join_all-hands-requires-room-P-Promise
join_all-hands-requires-room-P-Promise g c κs within = assumption

pub join_all-hands-requires-room-T-Destruct : goal.join_all-hands-requires-room-T-Destruct
join_all-hands-requires-room-T-Destruct g c κs within = assumption

pub drop-hands-requires-room-T-Destruct : goal.drop-hands-requires-room-T-Destruct
drop-hands-requires-room-T-Destruct g c κs within = assumption

pub drop-groups-requires-room-T-Destruct : goal.drop-groups-requires-room-T-Destruct
drop-groups-requires-room-T-Destruct g c κs within = assumption

pub ready-requires-room-P-Destruct : goal.ready-requires-room-P-Destruct
ready-requires-room-P-Destruct g c κs within = assumption

pub drop-hands-requires-in_err-first_fault-room-T-Destruct : goal.drop-hands-requires-in_err-first_fault-room-T-Destruct
drop-hands-requires-in_err-first_fault-room-T-Destruct g c κs within = assumption

pub drop-groups-requires-in_err-first_fault-room-T-Destruct : goal.drop-groups-requires-in_err-first_fault-room-T-Destruct
drop-groups-requires-in_err-first_fault-room-T-Destruct g c κs within = assumption

pub drop-answered-requires-room-T-Destruct : goal.drop-answered-requires-room-T-Destruct
drop-answered-requires-room-T-Destruct g c κs within = assumption

pub returns-in_err-callers-clause-ran : goal.returns-in_err-callers-clause-ran
returns-in_err-callers-clause-ran g c = if_ok_never _ _ c.from_residual.ensures

pub returns-in_err-callers-clause-answered : goal.returns-in_err-callers-clause-answered
returns-in_err-callers-clause-answered g c = λ unused. if_ok_never _ _ c.from_residual.ensures

pub returns-in_err-callers-clause-refused : goal.returns-in_err-callers-clause-refused
returns-in_err-callers-clause-refused g c = λ unused. if_ok_never _ _ c.from_residual.ensures

pub returns-in_err-first_fault-clause-ran : goal.returns-in_err-first_fault-clause-ran
returns-in_err-first_fault-clause-ran g c = if_ok_never _ _ c.from_residual-in_err-first_fault.ensures

pub returns-in_err-first_fault-clause-answered : goal.returns-in_err-first_fault-clause-answered
returns-in_err-first_fault-clause-answered g c = λ unused. if_ok_never _ _ c.from_residual-in_err-first_fault.ensures

pub returns-in_err-first_fault-clause-refused : goal.returns-in_err-first_fault-clause-refused
returns-in_err-first_fault-clause-refused g c = λ unused. if_ok_never _ _ c.from_residual-in_err-first_fault.ensures

pub unwrap-driver-requires : goal.unwrap-driver-requires
unwrap-driver-requires g c = c.in_ok-first_fault.ensures.driver

pub unwrap-groups-requires : goal.unwrap-groups-requires
unwrap-groups-requires g c = c.in_ok-first_fault.ensures.groups

pub unwrap-hands-requires : goal.unwrap-hands-requires
unwrap-hands-requires g c = c.in_ok-first_fault.ensures.hands

pub unwrap-answered-requires : goal.unwrap-answered-requires
unwrap-answered-requires g c = c.in_ok-first_fault.ensures.answered
