use Rattle.std.proofs.Common.{◌≡◌, ◌∙◌, ap, arith, length, refl, subst, sym, true≢false}
use Rattle.std.proofs.lemmas.Result.{IfOk-weaker}
use Rattle.rcu_part_control.specs.Parts.{control_board, control_view}
use Rattle.rcuo_script.specs.Calls.{is_call, is_show}
use Rattle.rcuo_replay.specs.Outcomes.{IsHand, IsShut}
use Rattle.rcuo_replay.specs.Printed.{IsAnswer, IsCallAnswer}
use Rattle.rcuo_script.specs.declared.lines.Verb.TheVariants as verb
use Rattle.rcuo_script.proofs.Jobs.{job_missing, job_over}
use Rattle.rcuo_replay.proofs.Keeping.{control_kept, driver_kept, groups_kept, hands_kept, processors_kept, stays_ours}
use Rattle.rcuo_replay.proofs.script.answer.Goals as goal
use Rattle.rcuo_replay.proofs.script.answer.Goals.{in_default-via-in-Call+in_default, in_default-via-in-Lazy+in_default, in_default-via-in-Quiet+in_default, in_default-via-in-Tick+in_default, in_default-via-in-Driver+in_default, in_default-via-in-Group+in_default, in_default-via-in-Hand+in_default, in_default-via-in-Offload+in_default, in_default-via-in-Deoffload+in_default, in_default-via-in-Leave+in_default, in_default-via-in-Return+in_default, in_default-via-in-Barrier+in_default, in_default-via-in-Poll+in_default, in_default-via-in-Shut+in_default, in_default-via-in_default}

pub unreachable-requires : goal.unreachable-requires
unreachable-requires g c = elim c.in_default.branch [
  | in_default-via-in-Call+in_default w ↦ job_missing c.args.job c.args.command.now c.requires.job w.in_default.is-1 (ap is_call w.in_default.is-0)
  | in_default-via-in-Lazy+in_default w ↦ job_missing c.args.job c.args.command.now c.requires.job w.in_default.is-1 (ap is_call w.in_default.is-0)
  | in_default-via-in-Quiet+in_default w ↦ job_over c.args.job c.args.command.now c.requires.job _ w.in_default.is-1 (ap is_call w.in_default.is-0)
  | in_default-via-in-Tick+in_default w ↦ job_over c.args.job c.args.command.now c.requires.job _ w.in_default.is-1 (ap is_call w.in_default.is-0)
  | in_default-via-in-Driver+in_default w ↦ job_over c.args.job c.args.command.now c.requires.job _ w.in_default.is-1 (ap is_call w.in_default.is-0)
  | in_default-via-in-Group+in_default w ↦ job_over c.args.job c.args.command.now c.requires.job _ w.in_default.is-1 (ap is_call w.in_default.is-0)
  | in_default-via-in-Hand+in_default w ↦ job_over c.args.job c.args.command.now c.requires.job _ w.in_default.is-1 (ap is_call w.in_default.is-0)
  | in_default-via-in-Offload+in_default w ↦ job_over c.args.job c.args.command.now c.requires.job _ w.in_default.is-1 (ap is_call w.in_default.is-0)
  | in_default-via-in-Deoffload+in_default w ↦ job_over c.args.job c.args.command.now c.requires.job _ w.in_default.is-1 (ap is_call w.in_default.is-0)
  | in_default-via-in-Leave+in_default w ↦ job_over c.args.job c.args.command.now c.requires.job _ w.in_default.is-1 (ap is_call w.in_default.is-0)
  | in_default-via-in-Return+in_default w ↦ job_over c.args.job c.args.command.now c.requires.job _ w.in_default.is-1 (ap is_call w.in_default.is-0)
  | in_default-via-in-Barrier+in_default w ↦ job_over c.args.job c.args.command.now c.requires.job _ w.in_default.is-1 (ap is_call w.in_default.is-0)
  | in_default-via-in-Poll+in_default w ↦ job_over c.args.job c.args.command.now c.requires.job _ w.in_default.is-1 (ap is_call w.in_default.is-0)
  | in_default-via-in-Shut+in_default w ↦ job_over c.args.job c.args.command.now c.requires.job _ w.in_default.is-1 (ap is_call w.in_default.is-0)
  | in_default-via-in_default w ↦ true≢false (sym (ap is_show w.in_default.is-0) ∙ c.requires.line)
]

pub returns-in-Call-Some-clause-kept : goal.returns-in-Call-Some-clause-kept
returns-in-Call-Some-clause-kept g c = processors_kept g.J.Job.key_of g.J.Job.gives c.args.parts.now c.call.new.processors c.call.ensures.line.same c.call.ensures.line.sound

pub returns-in-Lazy-Some-clause-kept : goal.returns-in-Lazy-Some-clause-kept
returns-in-Lazy-Some-clause-kept g c = processors_kept g.J.Job.key_of g.J.Job.gives c.args.parts.now c.call-in-Lazy-Some.new.processors c.call-in-Lazy-Some.ensures.line.same c.call-in-Lazy-Some.ensures.line.sound

pub returns-in-Quiet-None-clause-kept : goal.returns-in-Quiet-None-clause-kept
returns-in-Quiet-None-clause-kept g c = processors_kept g.J.Job.key_of g.J.Job.gives c.args.parts.now c.quiet.new.processors c.quiet.ensures.line.same c.quiet.ensures.line.sound

pub returns-in-Tick-None-clause-kept : goal.returns-in-Tick-None-clause-kept
returns-in-Tick-None-clause-kept g c = processors_kept g.J.Job.key_of g.J.Job.gives c.args.parts.now c.tick.new.processors c.tick.ensures.line.same c.tick.ensures.line.sound

pub returns-in-Driver-None-clause-kept : goal.returns-in-Driver-None-clause-kept
returns-in-Driver-None-clause-kept g c = driver_kept g.J.Job.key_of g.J.Job.gives c.args.parts.now c.driver.new.driver c.driver.ensures.same

pub returns-in-Group-None-clause-kept : goal.returns-in-Group-None-clause-kept
returns-in-Group-None-clause-kept g c = groups_kept g.J.Job.key_of g.J.Job.gives c.args.parts.now c.group.new.groups c.group.ensures.same

pub returns-in-Hand-None-clause-kept : goal.returns-in-Hand-None-clause-kept
returns-in-Hand-None-clause-kept g c = hands_kept g.J.Job.key_of g.J.Job.gives c.args.parts.now c.hand.new.hands c.hand.ensures.same c.hand.ensures.sound

pub returns-in-Offload-None-clause-kept : goal.returns-in-Offload-None-clause-kept
returns-in-Offload-None-clause-kept g c = control_kept g.J.Job.key_of g.J.Job.gives c.args.parts.now c.switch.new.control c.switch.ensures.line.same

pub returns-in-Deoffload-None-clause-kept : goal.returns-in-Deoffload-None-clause-kept
returns-in-Deoffload-None-clause-kept g c = control_kept g.J.Job.key_of g.J.Job.gives c.args.parts.now c.switch-in-Deoffload-None.new.control c.switch-in-Deoffload-None.ensures.line.same

pub returns-in-Barrier-None-clause-kept : goal.returns-in-Barrier-None-clause-kept
returns-in-Barrier-None-clause-kept g c = control_kept g.J.Job.key_of g.J.Job.gives c.args.parts.now c.barrier.new.control c.barrier.ensures.line.same

pub returns-in-Poll-None-clause-kept : goal.returns-in-Poll-None-clause-kept
returns-in-Poll-None-clause-kept g c = control_kept g.J.Job.key_of g.J.Job.gives c.args.parts.now c.poll.new.control c.poll.ensures.line.same

pub returns-in-Shut-None-clause-kept : goal.returns-in-Shut-None-clause-kept
returns-in-Shut-None-clause-kept g c = control_kept g.J.Job.key_of g.J.Job.gives c.args.parts.now c.shut.new.control c.shut.ensures.line.same

pub returns-in-Offload-None-clause-ours : goal.returns-in-Offload-None-clause-ours
returns-in-Offload-None-clause-ours g c = stays_ours c.args.opened.now (control_board c.args.parts.now.control) (control_board c.switch.new.control) c.switch.ensures.line.same.board c.requires.ours

pub returns-in-Deoffload-None-clause-ours : goal.returns-in-Deoffload-None-clause-ours
returns-in-Deoffload-None-clause-ours g c = stays_ours c.args.opened.now (control_board c.args.parts.now.control) (control_board c.switch-in-Deoffload-None.new.control) c.switch-in-Deoffload-None.ensures.line.same.board c.requires.ours

pub returns-in-Shut-None-clause-ours : goal.returns-in-Shut-None-clause-ours
returns-in-Shut-None-clause-ours g c = stays_ours c.args.opened.now (control_board c.args.parts.now.control) (control_board c.shut.new.control) c.shut.ensures.line.same.board c.requires.ours

pub returns-in-Hand-None-clause-line : goal.returns-in-Hand-None-clause-line
returns-in-Hand-None-clause-line g c =
    let old = c.args.parts.now in
    let many : c.len-n.result ≡ length old.processors.items = (let o = old.processors.ok.0 in let n = c.len-n.ensures in omega (arith, o, n)) in
    subst (λ x. IsAnswer g.J.Job.key_of old c.args.opened.now x c.args.job c.hand.result (record old { hands = c.hand.new.hands }) c.args.opened.now) (sym c.in-Hand-None.is-0)
    (subst (λ n. IsHand n c.in-Hand-None.cpu c.hand.result old.hands.items c.hand.new.hands.items) many c.hand.ensures.line, refl)

pub returns-in-Shut-None-clause-line : goal.returns-in-Shut-None-clause-line
returns-in-Shut-None-clause-line g c =
    let old = c.args.parts.now in
    IfOk-weaker c.shut.result (λ line. IsShut (control_board old.control).processors line (control_view old.control) (control_view c.shut.new.control))
    (λ line. IsAnswer g.J.Job.key_of old c.args.opened.now c.args.command.now c.args.job line (record old { control = c.shut.new.control }) c.args.opened.now)
    (λ line is. subst (λ x. IsAnswer g.J.Job.key_of old c.args.opened.now x c.args.job line (record old { control = c.shut.new.control }) c.args.opened.now) (sym c.in-Shut-None.is-0) (is, refl)) c.shut.ensures.line.does

pub call-requires-send-J : goal.call-requires-send-J
call-requires-send-J g c κs within = c.type_bounds.send-J

pub call-requires-after_bounds : goal.call-requires-after_bounds
call-requires-after_bounds g c κs within = assumption

pub call-requires-in-Lazy-Some-send-J : goal.call-requires-in-Lazy-Some-send-J
call-requires-in-Lazy-Some-send-J g c κs within = c.type_bounds.send-J

pub call-requires-in-Lazy-Some-after_bounds : goal.call-requires-in-Lazy-Some-after_bounds
call-requires-in-Lazy-Some-after_bounds g c κs within = assumption

pub quiet-requires-send-J : goal.quiet-requires-send-J
quiet-requires-send-J g c κs within = c.type_bounds.send-J

pub quiet-requires-after_bounds : goal.quiet-requires-after_bounds
quiet-requires-after_bounds g c κs within = assumption

pub tick-requires-send-J : goal.tick-requires-send-J
tick-requires-send-J g c κs within = c.type_bounds.send-J

pub tick-requires-after_bounds : goal.tick-requires-after_bounds
tick-requires-after_bounds g c κs within = assumption

pub group-requires-send-J : goal.group-requires-send-J
group-requires-send-J g c κs within = c.type_bounds.send-J

pub group-requires-after_bounds : goal.group-requires-after_bounds
group-requires-after_bounds g c κs within = assumption

pub hand-requires-send-J : goal.hand-requires-send-J
hand-requires-send-J g c κs within = c.type_bounds.send-J

pub hand-requires-after_bounds : goal.hand-requires-after_bounds
hand-requires-after_bounds g c κs within = assumption

pub unreachable-unreachable : goal.unreachable-unreachable
unreachable-unreachable g c = c.unreachable.result

pub returns-in-Call-Some-clause-line : goal.returns-in-Call-Some-clause-line
returns-in-Call-Some-clause-line g c = let old = c.args.parts.now in let new = record old { processors = c.call.new.processors } in
    subst (λ x. IsAnswer g.J.Job.key_of old c.args.opened.now x c.args.job c.call.result new c.args.opened.now) (sym c.in-Call-Some.is-0)
    (subst (λ j. IsCallAnswer g.J.Job.key_of verb.Call c.in-Call-Some.cpu c.in-Call-Some.moment j c.call.result old new) (sym c.in-Call-Some.is-1) (c.call.ensures.line.does, refl))

pub returns-in-Call-Some-clause-barrier : goal.returns-in-Call-Some-clause-barrier
returns-in-Call-Some-clause-barrier g c = λ _. refl

pub returns-in-Call-Some-clause-ours : goal.returns-in-Call-Some-clause-ours
returns-in-Call-Some-clause-ours g c = c.requires.ours

pub returns-in-Lazy-Some-clause-line : goal.returns-in-Lazy-Some-clause-line
returns-in-Lazy-Some-clause-line g c = let old = c.args.parts.now in let new = record old { processors = c.call-in-Lazy-Some.new.processors } in
    subst (λ x. IsAnswer g.J.Job.key_of old c.args.opened.now x c.args.job c.call-in-Lazy-Some.result new c.args.opened.now) (sym c.in-Lazy-Some.is-0)
    (subst (λ j. IsCallAnswer g.J.Job.key_of verb.Lazy c.in-Lazy-Some.cpu c.in-Lazy-Some.moment j c.call-in-Lazy-Some.result old new) (sym c.in-Lazy-Some.is-1) (c.call-in-Lazy-Some.ensures.line.does, refl))

pub returns-in-Lazy-Some-clause-barrier : goal.returns-in-Lazy-Some-clause-barrier
returns-in-Lazy-Some-clause-barrier g c = λ _. refl

pub returns-in-Lazy-Some-clause-ours : goal.returns-in-Lazy-Some-clause-ours
returns-in-Lazy-Some-clause-ours g c = c.requires.ours

pub returns-in-Quiet-None-clause-line : goal.returns-in-Quiet-None-clause-line
returns-in-Quiet-None-clause-line g c = let old = c.args.parts.now in subst (λ x. IsAnswer g.J.Job.key_of old c.args.opened.now x c.args.job c.quiet.result (record old { processors = c.quiet.new.processors }) c.args.opened.now)
    (sym c.in-Quiet-None.is-0) (c.quiet.ensures.line.does, refl)

pub returns-in-Quiet-None-clause-barrier : goal.returns-in-Quiet-None-clause-barrier
returns-in-Quiet-None-clause-barrier g c = λ _. refl

pub returns-in-Quiet-None-clause-ours : goal.returns-in-Quiet-None-clause-ours
returns-in-Quiet-None-clause-ours g c = c.requires.ours

pub returns-in-Tick-None-clause-line : goal.returns-in-Tick-None-clause-line
returns-in-Tick-None-clause-line g c = let old = c.args.parts.now in subst (λ x. IsAnswer g.J.Job.key_of old c.args.opened.now x c.args.job c.tick.result (record old { processors = c.tick.new.processors }) c.args.opened.now)
    (sym c.in-Tick-None.is-0) (c.tick.ensures.line.does, refl)

pub returns-in-Tick-None-clause-barrier : goal.returns-in-Tick-None-clause-barrier
returns-in-Tick-None-clause-barrier g c = λ _. refl

pub returns-in-Tick-None-clause-ours : goal.returns-in-Tick-None-clause-ours
returns-in-Tick-None-clause-ours g c = c.requires.ours

pub returns-in-Driver-None-clause-line : goal.returns-in-Driver-None-clause-line
returns-in-Driver-None-clause-line g c = let old = c.args.parts.now in subst (λ x. IsAnswer g.J.Job.key_of old c.args.opened.now x c.args.job c.driver.result (record old { driver = c.driver.new.driver }) c.args.opened.now)
    (sym c.in-Driver-None.is-0) (c.driver.ensures.line, refl)

pub returns-in-Driver-None-clause-barrier : goal.returns-in-Driver-None-clause-barrier
returns-in-Driver-None-clause-barrier g c = λ _. refl

pub returns-in-Driver-None-clause-ours : goal.returns-in-Driver-None-clause-ours
returns-in-Driver-None-clause-ours g c = c.requires.ours

pub returns-in-Group-None-clause-line : goal.returns-in-Group-None-clause-line
returns-in-Group-None-clause-line g c = let old = c.args.parts.now in subst (λ x. IsAnswer g.J.Job.key_of old c.args.opened.now x c.args.job c.group.result (record old { groups = c.group.new.groups }) c.args.opened.now)
    (sym c.in-Group-None.is-0) (c.group.ensures.line, refl)

pub returns-in-Group-None-clause-barrier : goal.returns-in-Group-None-clause-barrier
returns-in-Group-None-clause-barrier g c = λ _. refl

pub returns-in-Group-None-clause-ours : goal.returns-in-Group-None-clause-ours
returns-in-Group-None-clause-ours g c = c.requires.ours

pub returns-in-Hand-None-clause-barrier : goal.returns-in-Hand-None-clause-barrier
returns-in-Hand-None-clause-barrier g c = λ _. refl

pub returns-in-Hand-None-clause-ours : goal.returns-in-Hand-None-clause-ours
returns-in-Hand-None-clause-ours g c = c.requires.ours

pub returns-in-Offload-None-clause-line : goal.returns-in-Offload-None-clause-line
returns-in-Offload-None-clause-line g c = let old = c.args.parts.now in subst (λ x. IsAnswer g.J.Job.key_of old c.args.opened.now x c.args.job c.switch.result (record old { control = c.switch.new.control }) c.args.opened.now)
    (sym c.in-Offload-None.is-0) (c.switch.ensures.line.does, refl)

pub returns-in-Offload-None-clause-barrier : goal.returns-in-Offload-None-clause-barrier
returns-in-Offload-None-clause-barrier g c = λ _. refl

pub returns-in-Deoffload-None-clause-line : goal.returns-in-Deoffload-None-clause-line
returns-in-Deoffload-None-clause-line g c = let old = c.args.parts.now in subst (λ x. IsAnswer g.J.Job.key_of old c.args.opened.now x c.args.job c.switch-in-Deoffload-None.result (record old { control = c.switch-in-Deoffload-None.new.control }) c.args.opened.now)
    (sym c.in-Deoffload-None.is-0) (c.switch-in-Deoffload-None.ensures.line.does, refl)

pub returns-in-Deoffload-None-clause-barrier : goal.returns-in-Deoffload-None-clause-barrier
returns-in-Deoffload-None-clause-barrier g c = λ _. refl

pub returns-in-Barrier-None-clause-line : goal.returns-in-Barrier-None-clause-line
returns-in-Barrier-None-clause-line g c = let old = c.args.parts.now in subst (λ x. IsAnswer g.J.Job.key_of old c.args.opened.now x c.args.job c.barrier.result (record old { control = c.barrier.new.control }) c.barrier.new.opened)
    (sym c.in-Barrier-None.is-0) (c.barrier.ensures.line.does, refl)

pub returns-in-Barrier-None-clause-ours : goal.returns-in-Barrier-None-clause-ours
returns-in-Barrier-None-clause-ours g c = c.barrier.ensures.many

pub returns-in-Poll-None-clause-line : goal.returns-in-Poll-None-clause-line
returns-in-Poll-None-clause-line g c = let old = c.args.parts.now in subst (λ x. IsAnswer g.J.Job.key_of old c.args.opened.now x c.args.job c.poll.result (record old { control = c.poll.new.control }) c.poll.new.opened)
    (sym c.in-Poll-None.is-0) (c.poll.ensures.line.does, refl)

pub returns-in-Poll-None-clause-ours : goal.returns-in-Poll-None-clause-ours
returns-in-Poll-None-clause-ours g c = c.poll.ensures.many

pub returns-in-Shut-None-clause-barrier : goal.returns-in-Shut-None-clause-barrier
returns-in-Shut-None-clause-barrier g c = λ _. refl

pub returns-in-Leave-None-clause-kept : goal.returns-in-Leave-None-clause-kept
returns-in-Leave-None-clause-kept g c = processors_kept g.J.Job.key_of g.J.Job.gives c.args.parts.now c.leave.new.processors c.leave.ensures.line.same c.leave.ensures.line.sound

pub returns-in-Leave-None-clause-line : goal.returns-in-Leave-None-clause-line
returns-in-Leave-None-clause-line g c = let old = c.args.parts.now in subst (λ x. IsAnswer g.J.Job.key_of old c.args.opened.now x c.args.job c.leave.result (record old { processors = c.leave.new.processors }) c.args.opened.now)
    (sym c.in-Leave-None.is-0) (c.leave.ensures.line.does, refl)

pub returns-in-Leave-None-clause-barrier : goal.returns-in-Leave-None-clause-barrier
returns-in-Leave-None-clause-barrier g c = λ _. refl

pub returns-in-Leave-None-clause-ours : goal.returns-in-Leave-None-clause-ours
returns-in-Leave-None-clause-ours g c = c.requires.ours

pub leave-requires-send-J : goal.leave-requires-send-J
leave-requires-send-J g c κs within = c.type_bounds.send-J

pub leave-requires-after_bounds : goal.leave-requires-after_bounds
leave-requires-after_bounds g c κs within = assumption

pub returns-in-Return-None-clause-kept : goal.returns-in-Return-None-clause-kept
returns-in-Return-None-clause-kept g c = processors_kept g.J.Job.key_of g.J.Job.gives c.args.parts.now c.come_back.new.processors c.come_back.ensures.line.same c.come_back.ensures.line.sound

pub returns-in-Return-None-clause-line : goal.returns-in-Return-None-clause-line
returns-in-Return-None-clause-line g c = let old = c.args.parts.now in subst (λ x. IsAnswer g.J.Job.key_of old c.args.opened.now x c.args.job c.come_back.result (record old { processors = c.come_back.new.processors }) c.args.opened.now)
    (sym c.in-Return-None.is-0) (c.come_back.ensures.line.does, refl)

pub returns-in-Return-None-clause-barrier : goal.returns-in-Return-None-clause-barrier
returns-in-Return-None-clause-barrier g c = λ _. refl

pub returns-in-Return-None-clause-ours : goal.returns-in-Return-None-clause-ours
returns-in-Return-None-clause-ours g c = c.requires.ours

pub come_back-requires-send-J : goal.come_back-requires-send-J
come_back-requires-send-J g c κs within = c.type_bounds.send-J

pub come_back-requires-after_bounds : goal.come_back-requires-after_bounds
come_back-requires-after_bounds g c κs within = assumption
