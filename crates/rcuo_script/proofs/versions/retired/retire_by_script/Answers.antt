use Rattle.std.proofs.Common.{arith, sym, subst, take}
use Rattle.rcuo_script.specs.Calls.{route_in}
use Rattle.rcuo_script.specs.Routes.{routes_of_calls}
use Rattle.rcuo_script.specs.Versions.{HasRetired}
use Rattle.rcuo_script.proofs.Tables.{at_most_one, calls_one_more, count_one_more}
use Rattle.std.proofs.lemmas.Result.{IfOk-from_err}
use Rattle.rcuo_script.proofs.versions.retired.retire_by_script.Goals as goal

pub loop-command-preserved : goal.loop-command-preserved
loop-command-preserved c =
    let i = c.loop-command.command-index in
    let script = c.args.script.now in
    let step = c.in_ok-retire_for.ensures in
    let more = count_one_more script i c.command-item.result c.loop-command-test.true c.command-item.is in
    record {
      count = omega (arith, step.many, c.loop-command.invariant.count, more);
      few = omega (arith, step.many, c.loop-command.invariant.few, at_most_one (route_in c.command-item.result));
      small = omega (arith, step.small, c.loop-command.invariant.small);
      versions = λ first was. subst (λ calls. HasRetired first calls c.retire_for.new.retiring)
          (sym (calls_one_more script i c.command-item.result c.loop-command-test.true c.command-item.is))
          (step.versions first (routes_of_calls (take i script)) (c.loop-command.invariant.versions first was));
    }

pub returns-in_err-retire_for-clause-many : goal.returns-in_err-retire_for-clause-many
returns-in_err-retire_for-clause-many c = IfOk-from_err _ _ c.from_residual.ensures.0

pub returns-in_err-retire_for-clause-versions : goal.returns-in_err-retire_for-clause-versions
returns-in_err-retire_for-clause-versions c = λ first has. IfOk-from_err _ _ c.from_residual.ensures.0
