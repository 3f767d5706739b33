use Rattle.std.proofs.Common.{arith, ◌≡◌, inl, inr, refl, subst}
use Rattle.std.proofs.lemmas.Bool.{cases_lt}
use Rattle.rcu_world_checker.specs.Fits.{HasReported}
use Rattle.rcu_world_checker.proofs.Deciding.{covers, reports}
use Rattle.rcu_world_checker.proofs.lawful.is_covered.Goals as goal

pub loop-q-preserved : goal.loop-q-preserved
loop-q-preserved c = λ q l. elim (cases_lt q c.loop-q.q) [
  | inl below ↦ c.loop-q.invariant q below
  | inr g ↦ let e : c.loop-q.q ≡ q = omega arith in subst (HasReported c.args.history.now c.args.after) e (c.has_reported.ensures.0 c.if-not-has_reported.false)
]

pub returns-then-not-has_reported : goal.returns-then-not-has_reported
returns-then-not-has_reported c = (
  λ e. absurd cc,
  λ covered. absurd (let e = c.has_reported.ensures.1 (reports c.args.n c.args.history.now c.args.after c.loop-q.q c.loop-q-test.true covered) in let f = c.if-not-has_reported.true in cc),
)

pub returns : goal.returns
returns c = (
  λ e. covers c.args.n c.args.history.now c.args.after (λ q l. c.loop-q.invariant q (omega (arith, c.loop-q-test.false))),
  λ covered. refl,
)
