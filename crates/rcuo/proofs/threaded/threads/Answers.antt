use Rattle.std.proofs.Common.{◌≡◌, map, refl, false, inl}
use Rattle.std.proofs.lemmas.Result.{IfErr-weaker, on_ok_weaker}
use Rattle.std.specs.List.{range_with_len}
use Rattle.rcu_jobs.specs.Promised.{Promised}
use Rattle.rcu_parts.proofs.KeptWhole.{opened_whole}
use Rattle.rcu_parts.proofs.Zips.{zip_all}
use Rattle.rcu_parts.specs.OneOpen.{parts_board, processors_in}
use Rattle.rcu_parts.specs.Openings.{IsFirstProcessor}
use Rattle.rcu_threads.specs.Ends.{AreUnused}
use Rattle.rcuo_script.specs.Faults.{IsFaultOfOutput}
use Rattle.rcuo_script.specs.Lines.{whole_totals}
use Rattle.rcuo_script.specs.Scripts.{Writes}
use Rattle.rcuo.specs.Totals.{IsFaultOfThreads, RunsInThreads}
use Rattle.std.proofs.lemmas.Result.{IfOk-from_err}
use Rattle.rcuo.proofs.threaded.threads.Goals as goal

pub returns-in-Ok : goal.returns-in-Ok
returns-in-Ok g c =
    let setup = c.args.plan.now.setup in
    let start = c.in_ok-parts.parts in
    let closed = c.in-Ok.ended.closed in
    let opened = c.in_ok-parts.ensures.opened in
    -- parts that were just opened have accepted nothing
    let unused : AreUnused start =
    zip_all (IsFirstProcessor c.for_parts.result _ (parts_board start)) (λ p. p.state.accepted ≡ 0) (λ k p first. first.part.accepted)
    (range_with_len 0 (parts_board start).processors) (processors_in start) opened.processors in
    let runs : RunsInThreads (λ job. job.key) (Promised 65536) setup c.args.jobs.items (whole_totals false closed) =
    record {
      start = start;
      shape = c.for_parts.result;
      of_setup = c.for_parts.ensures;
      opened = opened;
      closed = closed;
      closes = c.in-Ok.ensures.closes;
      none_back = c.in-Ok.ensures.ran unused;
      answers = map (λ own. own.items) c.in-Ok.ended.answers.items;
      all = c.in-Ok.ensures.all unused (opened_whole c.for_parts.result start opened);
      whole = refl;
    } in
    record {
      prints = on_ok_weaker
          {Q = Writes (g.W.Write.contents c.args.writer.now) (g.W.Write.contents c.print_totals.new.writer)
          (RunsInThreads (λ job. job.key) (Promised 65536) setup c.args.jobs.items)}
          c.print_totals.result (λ written. (whole_totals false closed, runs, written)) c.print_totals.ensures.writes;
      why = IfErr-weaker c.print_totals.result IsFaultOfOutput IsFaultOfThreads (λ fault why. inl why) c.print_totals.ensures.why;
    }

pub run_in_threads-requires-send-R : goal.run_in_threads-requires-send-R
run_in_threads-requires-send-R g c κs within = assumption

pub returns-in_err-parts-clause-prints : goal.returns-in_err-parts-clause-prints
returns-in_err-parts-clause-prints g c = IfOk-from_err _ _ c.from_residual.ensures.0

pub returns-in-Err-clause-why : goal.returns-in-Err-clause-why
returns-in-Err-clause-why g c = c.not_run.ensures.why
