use Rattle.std.proofs.Common.{ap₂, refl, sym, true≢false, ◌∙◌}
use Rattle.std.proofs.lemmas.Result.{err_from_is_err_and}
use Rattle.clap.specs.Words.{takes}
use Rattle.rcuo_plan.proofs.TakenWords.{is_replay, is_taken, is_threads}
use Rattle.rcuo_plan.proofs.plan.subcommand_of.Goals as goal

pub returns-in_err-matches-clause-err : goal.returns-in_err-matches-clause-err
returns-in_err-matches-clause-err c s named =
    let p = err_from_is_err_and c.from_residual-in_err-matches.result c.from_residual-in_err-matches.ensures.1 in
    rw (p.1, p.2) (c.in_err-matches.ensures.passes (ap₂ takes c.in_ok-command.ensures named ∙ is_taken s))

pub returns-in-Some-clause-ok : goal.returns-in-Some-clause-ok
returns-in-Some-clause-ok c s named = is_threads s c.in_ok-matches.matches _ _ c.in_ok-command.ensures named c.in_ok-matches.ensures.matches (c.in-Some.ensures.found.0 refl)

pub returns-clause-ok : goal.returns-clause-ok
returns-clause-ok c s named = is_replay s c.in_ok-matches.matches _ _ c.in_ok-command.ensures named c.in_ok-matches.ensures.matches (λ e. true≢false (sym (c.in-None.ensures.found.1 e)))
