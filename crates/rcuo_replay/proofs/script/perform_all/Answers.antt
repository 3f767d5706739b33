use Rattle.std.proofs.Common.{◌≡◌, ◌≤◌, ap, arith, count_by, length, take}
use Rattle.std.proofs.lemmas.List.{take_all}
use Rattle.std.specs.VecDeque.{deque_len}
use Rattle.rcu_lists.proofs.Outcomes.{if_ok_never}
use Rattle.rcuo_replay.proofs.Writing.{why_output}
use Rattle.rcuo_replay.proofs.Keeping.{all_kept, kept_again}
use Rattle.rcuo_script.proofs.Scripts.{printed_more, printed_none, printed_whole}
use Rattle.rcuo_script.proofs.Counting.{less_one, one_more}
use Rattle.rcuo_script.specs.Calls.{is_call}
use Rattle.rcuo_replay.specs.Printed.{Prints}
use Rattle.rcuo_replay.proofs.script.perform_all.Goals as goal

pub loop-command-init : goal.loop-command-init
loop-command-init g c = record {
  kept = all_kept g.J.Job.key_of g.J.Job.gives c.args.parts.now;
  its = tt;
  printed = printed_none (Prints g.J.Job.key_of) c.args.parts.now c.args.setup.now.script.items c.args.jobs.items (g.W.Write.contents c.args.writer.now) c.from_vec-left.result.items c.from_vec-left.ensures.items;
  jobs = omega (arith, c.from_vec-left.ensures.len, c.requires.jobs);
}

pub job_for-job-requires : goal.job_for-job-requires
job_for-job-requires g c = λ is_so. one_more is_call _ _ c.loop-command.command-index c.command-item.result c.deref-command-items.ensures.value c.loop-command-test.true c.command-item.is
    (deque_len c.loop-command.left) is_so c.loop-command.invariant.jobs

pub loop-command-preserved : goal.loop-command-preserved
loop-command-preserved g c = record {
  kept = kept_again g.J.Job.key_of g.J.Job.gives c.args.parts.now c.loop-command.parts c.perform.new.parts c.loop-command.invariant.kept c.perform.ensures.kept;
  its = c.perform.ensures.ours;
  printed = let w = c.in_ok-perform.ensures.prints.written in let l = c.loop-command in
      printed_more (Prints g.J.Job.key_of) c.args.parts.now c.args.setup.now.script.items c.args.jobs.items l.left.items c.job_for-job.new.jobs.items
      (g.W.Write.contents c.args.writer.now) (g.W.Write.contents l.writer) (g.W.Write.contents c.perform.new.writer) l.command-index l.parts c.perform.new.parts l.opened c.perform.new.opened
      c.command-item.result c.job_for-job.result w.0 (rw c.deref-command-items.ensures.value at c.loop-command-test.true) (rw c.deref-command-items.ensures.value at c.command-item.is)
      c.job_for-job.ensures.first w.1 w.2 l.invariant.printed;
  jobs = less_one is_call _ _ c.loop-command.command-index c.command-item.result c.deref-command-items.ensures.value c.loop-command-test.true c.command-item.is
      (deque_len c.loop-command.left) (deque_len c.job_for-job.new.jobs) c.job_for-job.ensures.left c.loop-command.invariant.jobs;
}

pub returns-in_err-perform-clause-kept : goal.returns-in_err-perform-clause-kept
returns-in_err-perform-clause-kept g c = kept_again g.J.Job.key_of g.J.Job.gives c.args.parts.now c.loop-command.parts c.perform.new.parts c.loop-command.invariant.kept c.perform.ensures.kept

pub returns-clause-prints : goal.returns-clause-prints
returns-clause-prints g c = record {
  written = let l = c.loop-command in let cs = c.args.setup.now.script.items in
      let all : length cs ≤ l.command-index = rw c.deref-command-items.ensures.value at c.loop-command-test.false in
      let counted : count_by is_call (take l.command-index cs) ≡ count_by is_call cs = ap (count_by is_call) (take_all l.command-index cs all) in
      let none_left : length l.left.items ≡ 0 = omega (arith, counted, l.invariant.jobs, l.left.ok.0) in
      printed_whole (Prints g.J.Job.key_of) c.args.parts.now cs c.args.jobs.items (g.W.Write.contents c.args.writer.now) l.left.items (g.W.Write.contents l.writer) l.command-index l.parts l.opened
      all none_left l.invariant.printed;
  why = tt;
}

pub returns-in_err-perform-clause-prints : goal.returns-in_err-perform-clause-prints
returns-in_err-perform-clause-prints g c = record {
  written = if_ok_never _ _ c.from_residual.ensures;
  why = why_output c.from_residual.result c.in_err-perform.field-0.0 c.from_residual.ensures c.in_err-perform.ensures.prints.why;
}

pub perform-requires-send-J : goal.perform-requires-send-J
perform-requires-send-J g c κs within = c.type_bounds.send-J

pub perform-requires-after_bounds : goal.perform-requires-after_bounds
perform-requires-after_bounds g c κs within = assumption
