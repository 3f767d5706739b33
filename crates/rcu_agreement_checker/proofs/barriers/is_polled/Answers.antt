use Rattle.std.proofs.Common.{◌≡◌, ◌≤◌, List, ℕ, subst, sym, arith, inl, inr}
use Rattle.std.specs.List.{Any}
use Rattle.std.proofs.lemmas.Bool.{cases_lt}
use Rattle.std.proofs.lemmas.List.{length-map}
use Rattle.rcu_agreement.specs.Accounts.{account_at}
use Rattle.rcu_agreement.specs.Agreement.{count_of}
use Rattle.rcu_agreement_checker.specs.Known.{all_counts, all_known, known}
use Rattle.rcu_agreement_checker.proofs.barriers.is_polled.Goals as goal

-- some sight is as many, where both are known by other names
saw : (m n : ℕ) (xs ys : List ℕ) → m ≡ n → xs ≡ ys → Any (λ sight. m ≤ sight) xs → Any (λ sight. n ≤ sight) ys
saw m n xs ys e f any = subst (λ zs. Any (λ sight. n ≤ sight) zs) f (subst (λ k. Any (λ sight. k ≤ sight) xs) e any)

pub returns-then-not-has_seen_as_many : goal.returns-then-not-has_seen_as_many
returns-then-not-has_seen_as_many c = (
  λ e. absurd cc,
  λ polled. absurd (
      let any = polled.each c.loop-p.p (omega (arith, c.loop-p-test.true, length-map c.args.accounts.now known)) in
      let e = c.has_seen_as_many.ensures.1 (saw _ _ _ _ (sym c.count_of.ensures) (sym c.turns_of.ensures) any) in
      let f = c.if-not-has_seen_as_many.true in
      cc
      ),
)

pub loop-p-preserved : goal.loop-p-preserved
loop-p-preserved c = λ q l. elim (cases_lt q c.loop-p.p) [
  | inl below ↦ c.loop-p.invariant q below
  | inr g ↦
      let here : c.loop-p.p ≡ q = omega arith in
      subst (λ x. Any (λ turn. count_of (all_counts c.args.counts.now) c.args.b x ≤ turn) (account_at (all_known c.args.accounts.now) x).turns) here
      (saw _ _ _ _ c.count_of.ensures c.turns_of.ensures (c.has_seen_as_many.ensures.0 c.if-not-has_seen_as_many.false))
]
