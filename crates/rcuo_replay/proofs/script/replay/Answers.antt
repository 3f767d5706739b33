use Rattle.std.proofs.Common.{arith, refl, true}
use Rattle.rcu_parts.proofs.StaySame.{stay_same}
use Rattle.rcuo_replay.specs.Printed.{Prints}
use Rattle.rcuo_replay.specs.Scripts.{Replays}
use Rattle.rcuo_script.specs.Scripts.{PrintsScript}
use Rattle.rcuo_script.specs.Lines.{whole_totals}
use Rattle.rcuo_script.proofs.Scripts.{writes_then}
use Rattle.rcu_jobs.specs.Promised.{Promised}
use Rattle.rcuo_replay.proofs.Returning.{back_same, back_sound}
use Rattle.rcuo_replay.proofs.script.replay.Goals as goal

pub close-requires-clause-parts : goal.close-requires-clause-parts
close-requires-clause-parts g c κs = (
  omega arith,
  (
    omega arith,
    (
      omega arith,
      stay_same c.in_ok-start.start c.in_ok-back.back
          (back_same (λ job. job.key) (Promised 65536) c.in_ok-start.start c.in_ok-parts.parts c.perform_all.new.parts c.in_ok-back.back c.in_ok-parts.ensures c.perform_all.ensures.kept c.in_ok-back.ensures.back c.in_ok-back.ensures.kept)
          c.in_ok-start.ensures.one,
    ),
  ),
)

pub returns : goal.returns
returns g c = record {
  prints = record {
    written = let setup = c.args.setup.now in let jobs = c.args.jobs.items in let start = c.in_ok-start.start in let first = c.in_ok-parts.parts in let end = c.perform_all.new.parts in let back = c.in_ok-back.back in let closed = c.in-Ok.closed in
        let sound = back_sound (λ job. job.key) (Promised 65536) start first end back c.in_ok-parts.ensures c.perform_all.ensures.kept c.in_ok-back.ensures.back c.in_ok-back.ensures.kept c.in_ok-start.ensures.sound in
        writes_then (PrintsScript (Prints (λ job. job.key)) first end setup.script.items jobs) (Replays (λ job. job.key) (Promised 65536) setup jobs)
        (g.W.Write.contents c.args.writer.now) (g.W.Write.contents c.perform_all.new.writer) (g.W.Write.contents c.write_totals.new.writer) c.write_totals.result (whole_totals true closed)
        (λ lines prints. record { start = start; shape = c.for_parts.result; of_setup = c.for_parts.ensures; opened = c.in_ok-start.ensures.opened; first = first; here = c.in_ok-parts.ensures; lines = lines; end = end; prints = prints; last = back; back = c.in_ok-back.ensures.back; closed = closed; closes = c.in-Ok.ensures.closes sound; whole = refl })
        c.in_ok-perform_all.ensures.prints.written c.write_totals.ensures.writes;
    why = c.write_totals.ensures.why;
  };
}
