use Rattle.std.proofs.Common.{◌≡◌, ◌∙◌, sym, inr, inl}
use Rattle.std.proofs.lemmas.Result.{IfErr-weaker}
use Rattle.std.specs.Mem.{FitsInMemory}
use denote.Builtin.{u64 as receipt}
use denote.Param.{param}
use Rattle.rcu_part_group.specs.contracts.group.Group as group_row
use Rattle.rcu_part_hand.specs.contracts.hand.Hand as hand_row
use Rattle.rcu_part_processor.specs.contracts.away.Away as away_row
use Rattle.rcu_part_processor.specs.contracts.processor.Processor as processor_row
use Rattle.rcuo_script.specs.Faults.{IsFaultOfOutput}
use Rattle.rcuo_script.specs.declared.fault.Fault.TheVariants.{CannotWrite}
use Rattle.rcu_lists.proofs.Outcomes.{if_ok_never}
use Rattle.rcuo_replay.proofs.Keeping.{all_kept}
use Rattle.rcuo_replay.proofs.Writing.{line_written, lists_written, why_output}
use Rattle.rcuo_replay.proofs.script.perform.Goals as goal

pub returns-then-is_show-clause-kept : goal.returns-then-is_show-clause-kept
returns-then-is_show-clause-kept g c = all_kept g.J.Job.key_of g.J.Job.gives c.args.parts.now

pub answer-requires-after_bounds : goal.answer-requires-after_bounds
answer-requires-after_bounds g c κs within =
    let p : FitsInMemory (processor_row.the_row (param 0 g.row.J) receipt) = c.requires-raw.1.1.1.0 in
    let a : FitsInMemory (away_row.the_row (param 0 g.row.J) receipt) = c.requires-raw.1.1.1.1.0 in
    let q : FitsInMemory (group_row.the_row (param 0 g.row.J) receipt) = c.requires-raw.1.1.1.1.1.0 in
    let h : FitsInMemory (hand_row.the_row (param 0 g.row.J) receipt) = c.requires-raw.1.1.1.1.1.1.0 in
    (p, (a, (q, (h, (c.requires.job, (sym c.is_show.ensures ∙ c.if-is_show.false, c.requires.ours))))))

pub show-requires-send-J : goal.show-requires-send-J
show-requires-send-J g c κs within = c.type_bounds.send-J

pub show-requires-after_bounds : goal.show-requires-after_bounds
show-requires-after_bounds g c κs within = assumption

pub answer-requires-send-J : goal.answer-requires-send-J
answer-requires-send-J g c κs within = c.type_bounds.send-J

pub returns-then-is_show-clause-prints : goal.returns-then-is_show-clause-prints
returns-then-is_show-clause-prints g c = record {
  written = lists_written g.J.Job.key_of c.args.parts.now c.args.opened.now c.args.command.now c.args.job c.show.result (g.W.Write.contents c.args.writer.now) (g.W.Write.contents c.show.new.writer)
      (sym c.is_show.ensures ∙ c.if-is_show.true) c.show.ensures.shows.written;
  why = c.show.ensures.shows.why;
}

pub returns-clause-prints : goal.returns-clause-prints
returns-clause-prints g c = record {
  written = line_written g.J.Job.key_of c.args.parts.now c.args.opened.now c.args.command.now c.args.job c.write_line.result (g.W.Write.contents c.args.writer.now) (g.W.Write.contents c.write_line.new.writer)
      c.answer.new.parts c.answer.new.opened c.in_ok-line.line (sym c.is_show.ensures ∙ c.if-is_show.false) c.in_ok-line.ensures.line c.answer.ensures.barrier c.write_line.ensures.writes;
  why = IfErr-weaker c.write_line.result (λ fault. fault ≡ CannotWrite) IsFaultOfOutput (λ fault why. inr why) c.write_line.ensures.why;
}

pub returns-in_err-line-clause-prints : goal.returns-in_err-line-clause-prints
returns-in_err-line-clause-prints g c = record {
  written = if_ok_never _ _ c.from_residual.ensures;
  why = why_output c.from_residual.result c.in_err-line.field-0.0 c.from_residual.ensures (inl c.in_err-line.ensures.why);
}
