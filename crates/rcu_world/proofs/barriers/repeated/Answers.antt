use Rattle.std.proofs.Common.{◌∙◌, ◌++◌, ◌∷◌, [], replicate, ap}
use Rattle.std.proofs.lemmas.List.{replicate_more}
use Rattle.rcu_world.proofs.Places.{same_place}
use Rattle.rcu_world.proofs.Wholes.{if_ok_never}
use Rattle.rcu_world.proofs.barriers.repeated.Goals as goal

pub loop-place-init : goal.loop-place-init
loop-place-init g c = c.new-list.ensures.items

pub returns-in_err-push : goal.returns-in_err-push
returns-in_err-push g c = if_ok_never _ _ c.from_residual.ensures

pub loop-place-preserved : goal.loop-place-preserved
loop-place-preserved g c = c.in_ok-push.ensures.items ∙ ap (λ xs. xs ++ c.args.item ∷ []) c.loop-place.invariant ∙ replicate_more c.loop-place.place c.args.item

pub returns : goal.returns
returns g c = c.loop-place.invariant ∙ ap (λ n. replicate n c.args.item) (same_place _ _ c.loop-place.auto.place-end c.loop-place-test.false)
