use Rattle.std.proofs.Common.{arith, refl, inl, inr, ◌≡◌, subst}
use Rattle.std.proofs.lemmas.Bool.{cases_lt}
use Rattle.rcu_world_checker.specs.Returns.{Settles}
use Rattle.rcu_world_checker.proofs.Deciding.{settles_past}
use Rattle.rcu_world_checker.proofs.Settling.{settled_of, settles_each}
use Rattle.rcu_world_checker.proofs.closed.is_settled.Goals as goal

pub returns-then-not-settles : goal.returns-then-not-settles
returns-then-not-settles c = (
  λ e. absurd cc,
  λ settled. absurd (let e = c.settles.ensures.1 (settles_each c.args.history.now c.loop-place.place settled) in let f = c.if-not-settles.true in cc),
)

pub loop-place-preserved : goal.loop-place-preserved
loop-place-preserved c = λ u l. elim (cases_lt u c.loop-place.place) [
  | inl below ↦ c.loop-place.invariant u below
  | inr g ↦ let e : c.loop-place.place ≡ u = omega arith in subst (Settles c.args.history.now) e (c.settles.ensures.0 c.if-not-settles.false)
]

pub returns : goal.returns
returns c = (
  λ e. settled_of c.args.history.now c.requires.ordered (λ u. elim (cases_lt u c.loop-place.place) [
    | inl below ↦ c.loop-place.invariant u below
    | inr g ↦ settles_past c.args.history.now u (omega (arith, c.loop-place-test.false))
  ]),
  λ settled. refl,
)
