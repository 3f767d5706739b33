use Rattle.std.proofs.Common.{◌≡◌, subst, arith, inl, inr}
use Rattle.std.proofs.lemmas.Bool.{cases_lt}
use Rattle.rcu_agreement_checker.specs.Known.{all_counts, all_known}
use Rattle.rcu_agreement_checker.specs.Places.{AgreesAt}
use Rattle.rcu_agreement_checker.proofs.Agreeing.{agreed_at, agreed_lists, agrees_of, agrees_past}
use Rattle.rcu_agreement_checker.proofs.agreement.agrees.Goals as goal

pub returns-then-not-place_agrees : goal.returns-then-not-place_agrees
returns-then-not-place_agrees c = (
  λ e. absurd cc,
  λ agreed. absurd (
      let e = c.place_agrees.ensures.1 (agreed_at (all_known c.args.accounts.now) (all_counts c.args.counts.now) c.args.history.now agreed c.loop-place.place) in
      let f = c.if-not-place_agrees.true in
      cc
      ),
)

pub loop-place-preserved : goal.loop-place-preserved
loop-place-preserved c = λ u l. elim (cases_lt u c.loop-place.place) [
  | inl below ↦ c.loop-place.invariant u below
  | inr g ↦
      let here : c.loop-place.place ≡ u = omega arith in
      subst (AgreesAt (all_known c.args.accounts.now) (all_counts c.args.counts.now) c.args.history.now) here (c.place_agrees.ensures.0 c.if-not-place_agrees.false)
]

pub returns : goal.returns
returns c = (
  λ e. agrees_of (all_known c.args.accounts.now) (all_counts c.args.counts.now) c.args.history.now (λ u. elim (cases_lt u c.loop-place.place) [
    | inl below ↦ c.loop-place.invariant u below
    | inr g ↦ agrees_past (all_known c.args.accounts.now) (all_counts c.args.counts.now) c.args.history.now u (omega (arith, c.loop-place-test.false))
  ]) (c.lists_agree.ensures.0 e),
  λ agreed. c.lists_agree.ensures.1 (agreed_lists (all_known c.args.accounts.now) (all_counts c.args.counts.now) c.args.history.now agreed),
)
