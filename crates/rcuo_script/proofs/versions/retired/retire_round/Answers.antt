use Rattle.std.proofs.Common.{◌≡◌, ℕ, ◌+◌, List, [], ◌∷◌, ◌++◌, ◌∙◌, add-one, append_assoc, arith, codes, subst}
use Rattle.std.specs.Fmt.{decimal}
use Rattle.rcu_setup.specs.Words.{Route}
use Rattle.rcuo_script.specs.Routes.{routes_of_round}
use Rattle.rcuo_script.specs.Versions.{HasRetired}
use Rattle.std.proofs.lemmas.Result.{IfOk-from_err}
use Rattle.rcuo_script.proofs.versions.retired.retire_round.Goals as goal

-- the routes of one processor more
one_more : (calls : List Route) (round k : ℕ) (name : List ℕ) → name ≡ (codes "c" ++ decimal k) → (calls ++ routes_of_round round k) ++ (name, round) ∷ [] ≡ calls ++ routes_of_round round (k + 1)
one_more calls round k name e = rw (e, add-one) (append_assoc calls (routes_of_round round k) _)

pub loop-cpu-preserved : goal.loop-cpu-preserved
loop-cpu-preserved c =
    let k = c.loop-cpu.cpu-counter in
    let step = c.in_ok-retire.ensures in record {
      many = omega (arith, step.more, c.loop-cpu.invariant.many);
      small = omega (arith, step.more, step.small, c.loop-cpu.invariant.small);
      versions = λ first calls was. subst (λ (set : List Route). HasRetired first set c.retire.new.self)
          (one_more calls c.args.round k c.as_str.result.now (c.as_str.ensures.value ∙ c.in_ok-name.ensures.ok))
          (step.version first (calls ++ routes_of_round c.args.round k) (c.loop-cpu.invariant.versions first calls was));
    }

pub returns-in_err-name-clause-more : goal.returns-in_err-name-clause-more
returns-in_err-name-clause-more c = IfOk-from_err _ _ c.from_residual.ensures.0

pub returns-in_err-name-clause-small : goal.returns-in_err-name-clause-small
returns-in_err-name-clause-small c = IfOk-from_err _ _ c.from_residual.ensures.0

pub returns-in_err-name-clause-versions : goal.returns-in_err-name-clause-versions
returns-in_err-name-clause-versions c = λ first calls has. IfOk-from_err _ _ c.from_residual.ensures.0

pub returns-in_err-retire-clause-more : goal.returns-in_err-retire-clause-more
returns-in_err-retire-clause-more c = IfOk-from_err _ _ c.from_residual-in_err-retire.ensures.0

pub returns-in_err-retire-clause-small : goal.returns-in_err-retire-clause-small
returns-in_err-retire-clause-small c = IfOk-from_err _ _ c.from_residual-in_err-retire.ensures.0

pub returns-in_err-retire-clause-versions : goal.returns-in_err-retire-clause-versions
returns-in_err-retire-clause-versions c = λ first calls has. IfOk-from_err _ _ c.from_residual-in_err-retire.ensures.0
