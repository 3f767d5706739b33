use Rattle.std.proofs.Common.{◌≡◌, ◌∙◌, sym, inr, rules}
use Rattle.std.proofs.lemmas.Result.{IfErr-weaker}
use Rattle.rcuo_script.specs.Faults.{IsFaultOfOutput}
use Rattle.rcuo_script.specs.declared.fault.Fault.TheVariants.{CannotWrite}
use Rattle.rcu_world.specs.Views.{state}
use Rattle.rcu_world.proofs.Wholes.{if_ok_never}
use Rattle.rcu_world_replay.proofs.Printing.{line_written, lists_written, why_memory}
use Rattle.rcu_world.proofs.Staying.{stays_same}
use Rattle.rcu_world_replay.proofs.script.perform.Goals as goal

pub returns-then-is_show-clause-stays : goal.returns-then-is_show-clause-stays
returns-then-is_show-clause-stays g c = stays_same c.requires.world

pub returns-in_err-line-clause-stays : goal.returns-in_err-line-clause-stays
returns-in_err-line-clause-stays g c = c.answer.ensures.answers.stays

pub returns-clause-stays : goal.returns-clause-stays
returns-clause-stays g c = c.answer.ensures.answers.stays

pub returns-then-is_show-clause-prints : goal.returns-then-is_show-clause-prints
returns-then-is_show-clause-prints g c = record {
  written = lists_written g.J.Job.key_of (state g.J.Job.key_of c.args.world.now.core) c.args.opened.now c.args.command.now c.args.job c.show.result (g.W.Write.contents c.args.writer.now) (g.W.Write.contents c.show.new.writer)
      (sym c.is_show.ensures ∙ c.if-is_show.true) c.show.ensures.shows.written;
  why = c.show.ensures.shows.why;
}

pub returns-clause-prints : goal.returns-clause-prints
returns-clause-prints g c = record {
  written = line_written g.J.Job.key_of (state g.J.Job.key_of c.args.world.now.core) c.args.opened.now c.args.command.now c.args.job c.write_line.result (g.W.Write.contents c.args.writer.now) (g.W.Write.contents c.write_line.new.writer)
      (state g.J.Job.key_of c.answer.new.world.core) c.answer.new.opened c.in_ok-line.line (sym c.is_show.ensures ∙ c.if-is_show.false) c.in_ok-line.ensures.answers.line c.answer.ensures.barrier c.write_line.ensures.writes;
  why = IfErr-weaker c.write_line.result (λ fault. fault ≡ CannotWrite) IsFaultOfOutput (λ fault why. inr why) c.write_line.ensures.why;
}

pub returns-in_err-line-clause-prints : goal.returns-in_err-line-clause-prints
returns-in_err-line-clause-prints g c = record {
  written = if_ok_never _ _ c.from_residual.ensures;
  why = why_memory c.from_residual.result c.from_residual.ensures;
}
