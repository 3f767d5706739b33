use Rattle.std.proofs.Common.{rules, ◌∙◌, IfOk, ap, subst, sym, true≢false}
use Rattle.rcu_world.specs.Views.{state}
use Rattle.rcuo_script.specs.Calls.{is_call, is_show}
use Rattle.rcu_world_replay.specs.Printed.{IsAnswer}
use Rattle.rcuo_script.proofs.Jobs.{job_missing, job_over}
use Rattle.rcu_world_replay.proofs.script.answer.Goals as goal
use Rattle.rcu_world_replay.proofs.script.answer.Goals.{in_default-via-in-Call+in_default, in_default-via-in-Lazy+in_default, in_default-via-in-Quiet+in_default, in_default-via-in-Tick+in_default, in_default-via-in-Driver+in_default, in_default-via-in-Group+in_default, in_default-via-in-Hand+in_default, in_default-via-in-Offload+in_default, in_default-via-in-Deoffload+in_default, in_default-via-in-Leave+in_default, in_default-via-in-Return+in_default, in_default-via-in-Barrier+in_default, in_default-via-in-Poll+in_default, in_default-via-in-Shut+in_default, in_default-via-in_default}

pub unreachable-requires : goal.unreachable-requires
unreachable-requires g c = elim c.in_default.branch [
  | in_default-via-in-Call+in_default w ↦ job_missing c.args.job c.args.command.now c.requires.job w.in_default.is-1 (ap is_call w.in_default.is-0)
  | in_default-via-in-Lazy+in_default w ↦ job_missing c.args.job c.args.command.now c.requires.job w.in_default.is-1 (ap is_call w.in_default.is-0)
  | in_default-via-in-Quiet+in_default w ↦ job_over c.args.job c.args.command.now c.requires.job _ w.in_default.is-1 (ap is_call w.in_default.is-0)
  | in_default-via-in-Tick+in_default w ↦ job_over c.args.job c.args.command.now c.requires.job _ w.in_default.is-1 (ap is_call w.in_default.is-0)
  | in_default-via-in-Driver+in_default w ↦ job_over c.args.job c.args.command.now c.requires.job _ w.in_default.is-1 (ap is_call w.in_default.is-0)
  | in_default-via-in-Group+in_default w ↦ job_over c.args.job c.args.command.now c.requires.job _ w.in_default.is-1 (ap is_call w.in_default.is-0)
  | in_default-via-in-Hand+in_default w ↦ job_over c.args.job c.args.command.now c.requires.job _ w.in_default.is-1 (ap is_call w.in_default.is-0)
  | in_default-via-in-Offload+in_default w ↦ job_over c.args.job c.args.command.now c.requires.job _ w.in_default.is-1 (ap is_call w.in_default.is-0)
  | in_default-via-in-Deoffload+in_default w ↦ job_over c.args.job c.args.command.now c.requires.job _ w.in_default.is-1 (ap is_call w.in_default.is-0)
  | in_default-via-in-Leave+in_default w ↦ job_over c.args.job c.args.command.now c.requires.job _ w.in_default.is-1 (ap is_call w.in_default.is-0)
  | in_default-via-in-Return+in_default w ↦ job_over c.args.job c.args.command.now c.requires.job _ w.in_default.is-1 (ap is_call w.in_default.is-0)
  | in_default-via-in-Barrier+in_default w ↦ job_over c.args.job c.args.command.now c.requires.job _ w.in_default.is-1 (ap is_call w.in_default.is-0)
  | in_default-via-in-Poll+in_default w ↦ job_over c.args.job c.args.command.now c.requires.job _ w.in_default.is-1 (ap is_call w.in_default.is-0)
  | in_default-via-in-Shut+in_default w ↦ job_over c.args.job c.args.command.now c.requires.job _ w.in_default.is-1 (ap is_call w.in_default.is-0)
  | in_default-via-in_default w ↦ true≢false (sym (ap is_show w.in_default.is-0) ∙ c.requires.line)
]

pub returns-in-Quiet-None-clause-answers : goal.returns-in-Quiet-None-clause-answers
returns-in-Quiet-None-clause-answers g c = record {
  line = subst (λ x. IfOk c.quiet.result (λ line. IsAnswer g.J.Job.key_of (state g.J.Job.key_of c.args.world.now.core) c.args.opened.now x c.args.job line (state g.J.Job.key_of c.quiet.new.world.core) c.args.opened.now))
      (sym c.in-Quiet-None.is-0) c.quiet.ensures.answers.line;
  stays = c.quiet.ensures.answers.stays;
}

pub returns-in-Tick-None-clause-answers : goal.returns-in-Tick-None-clause-answers
returns-in-Tick-None-clause-answers g c = record {
  line = subst (λ x. IfOk c.tick.result (λ line. IsAnswer g.J.Job.key_of (state g.J.Job.key_of c.args.world.now.core) c.args.opened.now x c.args.job line (state g.J.Job.key_of c.tick.new.world.core) c.args.opened.now))
      (sym c.in-Tick-None.is-0) c.tick.ensures.answers.line;
  stays = c.tick.ensures.answers.stays;
}

pub returns-in-Driver-None-clause-answers : goal.returns-in-Driver-None-clause-answers
returns-in-Driver-None-clause-answers g c = record {
  line = subst (λ x. IfOk c.driver.result (λ line. IsAnswer g.J.Job.key_of (state g.J.Job.key_of c.args.world.now.core) c.args.opened.now x c.args.job line (state g.J.Job.key_of c.driver.new.world.core) c.args.opened.now))
      (sym c.in-Driver-None.is-0) c.driver.ensures.answers.line;
  stays = c.driver.ensures.answers.stays;
}

pub returns-in-Group-None-clause-answers : goal.returns-in-Group-None-clause-answers
returns-in-Group-None-clause-answers g c = record {
  line = subst (λ x. IfOk c.group.result (λ line. IsAnswer g.J.Job.key_of (state g.J.Job.key_of c.args.world.now.core) c.args.opened.now x c.args.job line (state g.J.Job.key_of c.group.new.world.core) c.args.opened.now))
      (sym c.in-Group-None.is-0) c.group.ensures.answers.line;
  stays = c.group.ensures.answers.stays;
}

pub returns-in-Hand-None-clause-answers : goal.returns-in-Hand-None-clause-answers
returns-in-Hand-None-clause-answers g c = record {
  line = subst (λ x. IfOk c.hand.result (λ line. IsAnswer g.J.Job.key_of (state g.J.Job.key_of c.args.world.now.core) c.args.opened.now x c.args.job line (state g.J.Job.key_of c.hand.new.world.core) c.args.opened.now))
      (sym c.in-Hand-None.is-0) c.hand.ensures.answers.line;
  stays = c.hand.ensures.answers.stays;
}

pub returns-in-Barrier-None-clause-answers : goal.returns-in-Barrier-None-clause-answers
returns-in-Barrier-None-clause-answers g c = record {
  line = subst (λ x. IfOk c.barrier.result (λ line. IsAnswer g.J.Job.key_of (state g.J.Job.key_of c.args.world.now.core) c.args.opened.now x c.args.job line (state g.J.Job.key_of c.barrier.new.world.core) c.barrier.new.opened))
      (sym c.in-Barrier-None.is-0) c.barrier.ensures.answers.line;
  stays = c.barrier.ensures.answers.stays;
}

pub returns-in-Poll-None-clause-answers : goal.returns-in-Poll-None-clause-answers
returns-in-Poll-None-clause-answers g c = record {
  line = subst (λ x. IfOk c.poll.result (λ line. IsAnswer g.J.Job.key_of (state g.J.Job.key_of c.args.world.now.core) c.args.opened.now x c.args.job line (state g.J.Job.key_of c.poll.new.world.core) c.poll.new.opened))
      (sym c.in-Poll-None.is-0) c.poll.ensures.answers.line;
  stays = c.poll.ensures.answers.stays;
}

pub returns-in-Shut-None-clause-answers : goal.returns-in-Shut-None-clause-answers
returns-in-Shut-None-clause-answers g c = record {
  line = subst (λ x. IfOk c.shut.result (λ line. IsAnswer g.J.Job.key_of (state g.J.Job.key_of c.args.world.now.core) c.args.opened.now x c.args.job line (state g.J.Job.key_of c.shut.new.world.core) c.args.opened.now))
      (sym c.in-Shut-None.is-0) c.shut.ensures.answers.line;
  stays = c.shut.ensures.answers.stays;
}

pub returns-in-Call-Some-clause-answers : goal.returns-in-Call-Some-clause-answers
returns-in-Call-Some-clause-answers g c = record {
  line = search rules;
  stays = c.call.ensures.tells.stays;
}

pub returns-in-Lazy-Some-clause-answers : goal.returns-in-Lazy-Some-clause-answers
returns-in-Lazy-Some-clause-answers g c = record {
  line = search rules;
  stays = c.call-in-Lazy-Some.ensures.tells.stays;
}

pub returns-in-Offload-None-clause-answers : goal.returns-in-Offload-None-clause-answers
returns-in-Offload-None-clause-answers g c = record {
  line = search rules;
  stays = c.switch.ensures.tells.stays;
}

pub returns-in-Deoffload-None-clause-answers : goal.returns-in-Deoffload-None-clause-answers
returns-in-Deoffload-None-clause-answers g c = record {
  line = search rules;
  stays = c.switch-in-Deoffload-None.ensures.tells.stays;
}

pub returns-in-Leave-None-clause-answers : goal.returns-in-Leave-None-clause-answers
returns-in-Leave-None-clause-answers g c = record {
  line = search rules;
  stays = c.leave.ensures.tells.stays;
}

pub returns-in-Return-None-clause-answers : goal.returns-in-Return-None-clause-answers
returns-in-Return-None-clause-answers g c = record {
  line = search rules;
  stays = c.come_back.ensures.tells.stays;
}
