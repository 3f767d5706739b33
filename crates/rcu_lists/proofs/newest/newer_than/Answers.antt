use Rattle.std.proofs.Common.{◌≡◌, ◌∙◌, ℕ, Option, Some, None, ap, refl, sym, subst}
use Rattle.std.specs.Prelude.{MatchOption}
use Rattle.std.proofs.lemmas.List.{take_all}
use Rattle.rcu_jobs.specs.declared.callback.Callback.{Callback}
use Rattle.rcu_lists.specs.Stamps.{greater, newer_of}
use Rattle.rcu_lists.proofs.Stamps.{newest-step}
use Rattle.rcu_lists.proofs.newest.newer_than.Goals.{in-Some, in-None}
use Rattle.rcu_lists.proofs.newest.newer_than.Goals as goal

than-none : (o : Option ℕ) → o ≡ newer_of o None
than-none None = refl
than-none (Some n) = refl

pub loop-place-preserved : goal.loop-place-preserved
loop-place-preserved g c =
    let Step : Option (Callback g.row.J.Denot) → Type 0 = λ p. MatchOption p (c.match-place.greatest ≡ c.loop-place.greatest) (λ x. c.match-place.greatest ≡ Some (greater x.stamp c.loop-place.greatest)) in
    newest-step c.args.stamp c.loop-place.greatest c.match-place.greatest c.args.places.now c.loop-place.place-index c.place-item.result c.loop-place-test.true c.place-item.is c.loop-place.invariant
    (elim c.match-place.branch [
      | in-Some w ↦ subst Step (sym w.in-Some.is) (w.greatest-is ∙ ap Some w.greater_stamp.ensures)
      | in-None w ↦ subst Step (sym w.in-None.is) w.greatest-is
    ])

pub loop-place-init : goal.loop-place-init
loop-place-init g c = than-none c.args.stamp

pub offset_bounds-places-place-index : goal.offset_bounds-places-place-index
offset_bounds-places-place-index g c = c.loop-place.auto.place-index-end

pub returns : goal.returns
returns g c = rw (take_all c.loop-place.place-index c.args.places.now c.loop-place-test.false) at c.loop-place.invariant
