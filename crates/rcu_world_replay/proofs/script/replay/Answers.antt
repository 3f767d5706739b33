use Rattle.std.proofs.Common.{refl, subst, true}
use Rattle.rcu_world_replay.specs.Printed.{Prints}
use Rattle.rcu_world_replay.specs.Scripts.{Replays}
use Rattle.rcu_jobs.specs.Promised.{Promised}
use Rattle.rcu_world_law.specs.States.{State, opening}
use Rattle.rcuo_script.proofs.Scripts.{writes_then}
use Rattle.rcuo_script.specs.Lines.{whole_totals}
use Rattle.rcuo_script.specs.Scripts.{PrintsScript, Writes}
use Rattle.rcu_world.specs.Views.{state}
use Rattle.rcu_world.specs.Worlds.{plan}
use Rattle.rcu_world_replay.proofs.script.replay.Goals as goal

pub returns : goal.returns
returns g c = record {
  prints = record {
    written = let setup = c.args.setup.now in let jobs = c.args.jobs.items in let closed = c.in-Ok.closed in let e = c.in-Ok.ensures in
        let end = state (λ job. job.key) c.perform_all.new.world.core in
        let old = g.W.Write.contents c.args.writer.now in let new = g.W.Write.contents c.perform_all.new.writer in
        let lines : Writes old new (PrintsScript (Prints (λ job. job.key)) (opening setup.shape.processors (plan setup.shape)) end setup.script.items jobs) =
        subst (λ (start : State). Writes old new (PrintsScript (Prints (λ job. job.key)) start end setup.script.items jobs)) c.in_ok-world.ensures.opens c.in_ok-perform_all.ensures.prints.written in
        writes_then (PrintsScript (Prints (λ job. job.key)) (opening setup.shape.processors (plan setup.shape)) end setup.script.items jobs) (Replays (λ job. job.key) (Promised 65536) setup jobs)
        old new (g.W.Write.contents c.write_totals.new.writer) c.write_totals.result (whole_totals true closed)
        (λ lines prints. record {
          lines = lines;
          end = end;
          prints = prints;
          closed = closed;
          ran = rw e.marks at e.ran;
          back = rw e.marks at e.back;
          reports = rw e.marks at e.reports;
          whole = refl;
        })
        lines c.write_totals.ensures.writes;
    why = c.write_totals.ensures.why;
  };
}
