use Rattle.std.proofs.Common.{◌≡◌, ◌≤◌, true, ◌∙◌, Option, refl, sym, subst}
use Rattle.std.specs.Prelude.{MatchOption}
use Rattle.std.proofs.lemmas.Bool.{leb-true, false≢true}
use Rattle.std.proofs.lemmas.List.{take_all}
use Rattle.rcu_jobs.specs.declared.callback.Callback.{Callback}
use Rattle.rcu_lists.proofs.Stamps.{known-step}
use Rattle.rcu_lists.proofs.newest.stamps_behind.Goals.{in-Some, then-still, else-still, in-None}
use Rattle.rcu_lists.proofs.newest.stamps_behind.Goals as goal

pub loop-place-preserved : goal.loop-place-preserved
loop-place-preserved g c =
    let Step : Option (Callback g.row.J.Denot) → Type 0 = λ p. MatchOption p ((c.match-place.still ≡ c.loop-place.still) × (c.match-place.newest ≡ c.loop-place.newest))
    (λ x. (c.match-place.still ≡ true → (c.loop-place.still ≡ true) × (c.loop-place.newest ≤ x.stamp)) × (c.match-place.newest ≡ x.stamp)) in
    known-step c.args.in_order c.loop-place.still c.match-place.still c.args.last c.loop-place.newest c.match-place.newest c.args.places.now c.loop-place.place-index c.place-item.result c.loop-place-test.true c.place-item.is c.loop-place.invariant
    (elim c.match-place.branch [
      | in-Some w ↦ subst Step (sym w.in-Some.is) (
        (λ e. elim w.if-still.branch [
          | then-still v ↦ (v.if-still.true, leb-true c.loop-place.newest w.in-Some.callback.stamp (sym v.still-is ∙ (sym w.still-is ∙ e)))
          | else-still v ↦ absurd (false≢true (sym v.if-still.false ∙ (sym v.still-is ∙ (sym w.still-is ∙ e))))
        ]),
        w.newest-is,
      )
      | in-None w ↦ subst Step (sym w.in-None.is) (w.still-is, w.newest-is)
    ])

pub loop-place-init : goal.loop-place-init
loop-place-init g c = record { order = λ e. (e, refl); last = refl }

pub offset_bounds-places-place-index : goal.offset_bounds-places-place-index
offset_bounds-places-place-index g c = c.loop-place.auto.place-index-end

pub returns-clause-order : goal.returns-clause-order
returns-clause-order g c = rw (take_all c.loop-place.place-index c.args.places.now c.loop-place-test.false) at c.loop-place.invariant.order

pub returns-clause-last : goal.returns-clause-last
returns-clause-last g c = rw (take_all c.loop-place.place-index c.args.places.now c.loop-place-test.false) at c.loop-place.invariant.last
