use Rattle.std.proofs.Common.{◌≡◌, ℕ, List, [], ◌∷◌, ◌++◌, ◌∙◌, ap, refl, sym}
use Rattle.std.proofs.lemmas.Bool.{false≢true}
use Rattle.std.proofs.lemmas.List.{map-append}
use Rattle.rcu_lists.specs.Bypasses.{bypass_items, bypass_pace}
use Rattle.rcu_lists.specs.Segments.{labelled}
use Rattle.rcu_lists.specs.Labels.{Labelled, callbacks_of}
use Rattle.rcu_world_processor.specs.Batches.{bypassed, law_pace, pace}
use Rattle.rcu_world_processor.specs.Waits.{call, calls, waiting, waits}
use Rattle.rcu_lists.proofs.Outcomes.{on_ok_never, on_err_said}
use Rattle.rcu_world_processor.proofs.Waiting.{calls_as}
use Rattle.rcu_world_processor.proofs.Paces.{poured}
use Rattle.rcu_world_processor.proofs.bypass.pour_all.Goals as goal

-- an empty list has none that wait
none_waits : {J : Type 0} (key_of : J → ℕ) (xs : List (Labelled J)) → waits key_of xs ≡ [] → xs ≡ []
none_waits key_of [] e = refl
none_waits key_of (x ∷ xs) e = absurd cc

pub returns-clause-left : goal.returns-clause-left
returns-clause-left g c = ap (waits g.J.Job.key_of) c.in_ok-pour.ensures.left

pub returns-clause-moved : goal.returns-clause-moved
returns-clause-moved g c = ap (calls g.J.Job.key_of) c.in_ok-pour.ensures.moved ∙ map-append (call g.J.Job.key_of) (bypass_items c.args.bypass.now) (callbacks_of (labelled c.args.list.now))
    ∙ ap (λ xs. calls g.J.Job.key_of (bypass_items c.args.bypass.now) ++ xs) (sym (calls_as g.J.Job.key_of (labelled c.args.list.now)))

pub returns-clause-pace : goal.returns-clause-pace
returns-clause-pace g c = ap law_pace c.in_ok-pour.ensures.pace ∙ poured g.J.Job.key_of (labelled c.args.list.now) (bypass_pace c.args.bypass.now)

pub returns-in_err-pour-clause-none : goal.returns-in_err-pour-clause-none
returns-in_err-pour-clause-none g c = λ e. absurd (false≢true (c.in_err-pour.ensures.none (none_waits g.J.Job.key_of (labelled c.args.list.now) e)))

pub pour-requires : goal.pour-requires
pour-requires g c = assumption

pub returns-in_err-pour-clause-left : goal.returns-in_err-pour-clause-left
returns-in_err-pour-clause-left g c = on_ok_never _ _ c.from_residual.ensures

pub returns-in_err-pour-clause-moved : goal.returns-in_err-pour-clause-moved
returns-in_err-pour-clause-moved g c = on_ok_never _ _ c.from_residual.ensures

pub returns-in_err-pour-clause-pace : goal.returns-in_err-pour-clause-pace
returns-in_err-pour-clause-pace g c = on_ok_never _ _ c.from_residual.ensures

pub returns-in_err-pour-clause-qhimark : goal.returns-in_err-pour-clause-qhimark
returns-in_err-pour-clause-qhimark g c = c.in_err-pour.ensures.qhimark

pub returns-in_err-pour-clause-err : goal.returns-in_err-pour-clause-err
returns-in_err-pour-clause-err g c = let k = g.J.Job.key_of in let new = c.pour.new in let same = c.in_err-pour.ensures.refused in
    let said : (waiting k new.self ≡ waiting k c.args.list.now) × (bypassed k new.bypass ≡ bypassed k c.args.bypass.now) × (pace new.bypass ≡ pace c.args.bypass.now) =
    (ap (waits k) same.0.list, ap (calls k) same.1.items, ap law_pace same.1.pace) in
    on_err_said _ _ said

pub returns-clause-qhimark : goal.returns-clause-qhimark
returns-clause-qhimark g c = c.in_ok-pour.ensures.qhimark

pub returns-clause-none : goal.returns-clause-none
returns-clause-none g c = λ _. refl
