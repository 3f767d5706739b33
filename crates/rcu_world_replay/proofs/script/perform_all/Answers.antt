use Rattle.std.proofs.Common.{◌≡◌, ◌≤◌, ap, arith, count_by, length, take, rules}
use Rattle.std.proofs.lemmas.List.{take_all}
use Rattle.std.specs.Mem.{FitsInMemory}
use Rattle.std.specs.VecDeque.{deque_len}
use denote.Param.{param}
use denote.Builtin.{u64 as receipt}
use Rattle.rcu_world.specs.contracts.worlds.World as world
use Rattle.rcuo_script.specs.Calls.{is_call}
use Rattle.rcu_world.specs.Views.{state}
use Rattle.rcuo_script.proofs.Counting.{less_one, one_more}
use Rattle.rcuo_script.proofs.Scripts.{printed_more, printed_none, printed_whole}
use Rattle.rcu_world.proofs.Wholes.{if_ok_never}
use Rattle.rcu_world_replay.specs.Printed.{Prints}
use Rattle.rcu_world_replay.proofs.Printing.{why_output}
use Rattle.rcu_world_replay.proofs.script.perform_all.Given.{Over}
use Rattle.rcu_world_replay.proofs.script.perform_all.Goals as goal
use Rattle.rcu_world_replay.proofs.script.perform_all.Goals.{Start}

pub job_for-job-requires : goal.job_for-job-requires
job_for-job-requires g c = λ is_so. one_more is_call _ _ c.loop-command.command-index c.command-item.result c.deref-command-items.ensures.value c.loop-command-test.true c.command-item.is
    (deque_len c.loop-command.left) is_so c.loop-command.invariant.jobs

pub loop-command-init : goal.loop-command-init
loop-command-init g c = record {
  world = c.requires.world;
  rest = c.requires.rest;
  printed = printed_none (Prints g.J.Job.key_of) (state g.J.Job.key_of c.args.world.now.core) c.args.setup.now.script.items c.args.jobs.items (g.W.Write.contents c.args.writer.now) c.from_vec-left.result.items c.from_vec-left.ensures.items;
  jobs = omega (arith, c.from_vec-left.ensures.len, c.requires.jobs);
}

pub loop-command-preserved : goal.loop-command-preserved
loop-command-preserved g c = record {
  world = c.perform.ensures.stays.kept;
  rest = c.perform.ensures.stays.rest c.loop-command.invariant.rest;
  printed = let w = c.in_ok-perform.ensures.prints.written in let l = c.loop-command in let key_of = g.J.Job.key_of in
      printed_more (Prints key_of) (state key_of c.args.world.now.core) c.args.setup.now.script.items c.args.jobs.items l.left.items c.job_for-job.new.jobs.items
      (g.W.Write.contents c.args.writer.now) (g.W.Write.contents l.writer) (g.W.Write.contents c.perform.new.writer) l.command-index (state key_of l.world.core) (state key_of c.perform.new.world.core) l.opened c.perform.new.opened
      c.command-item.result c.job_for-job.result w.0 (rw c.deref-command-items.ensures.value at c.loop-command-test.true) (rw c.deref-command-items.ensures.value at c.command-item.is)
      c.job_for-job.ensures.first w.1 w.2 l.invariant.printed;
  jobs = less_one is_call _ _ c.loop-command.command-index c.command-item.result c.deref-command-items.ensures.value c.loop-command-test.true c.command-item.is
      (deque_len c.loop-command.left) (deque_len c.job_for-job.new.jobs) c.job_for-job.ensures.left c.loop-command.invariant.jobs;
}

start_fits : (g : Over) (c : Start g) → FitsInMemory (world.the_row (param 0 g.row.J) receipt)
start_fits g c = search rules

pub perform-requires-after_bounds : goal.perform-requires-after_bounds
perform-requires-after_bounds g c κs within =
    (start_fits g c.before.before.before.before.before.before.before.before.before.before, (c.loop-command.invariant.world, (c.loop-command.invariant.rest, c.job_for-job.ensures.job)))

pub returns-clause-prints : goal.returns-clause-prints
returns-clause-prints g c = record {
  written = let l = c.loop-command in let cs = c.args.setup.now.script.items in let key_of = g.J.Job.key_of in
      let all : length cs ≤ l.command-index = rw c.deref-command-items.ensures.value at c.loop-command-test.false in
      let counted : count_by is_call (take l.command-index cs) ≡ count_by is_call cs = ap (count_by is_call) (take_all l.command-index cs all) in
      let none_left : length l.left.items ≡ 0 = omega (arith, counted, l.invariant.jobs, l.left.ok.0) in
      printed_whole (Prints key_of) (state key_of c.args.world.now.core) cs c.args.jobs.items (g.W.Write.contents c.args.writer.now) l.left.items (g.W.Write.contents l.writer) l.command-index (state key_of l.world.core) l.opened
      all none_left l.invariant.printed;
  why = tt;
}

pub returns-in_err-perform-clause-prints : goal.returns-in_err-perform-clause-prints
returns-in_err-perform-clause-prints g c = record {
  written = if_ok_never _ _ c.from_residual.ensures;
  why = why_output c.from_residual.result c.in_err-perform.field-0.0 c.from_residual.ensures c.in_err-perform.ensures.prints.why;
}
