use Rattle.std.proofs.Common.{◌≡◌, ◌≤◌, length, take, refl, ap, sym, subst, ◌∙◌, arith, inl, inr}
use Rattle.std.specs.List.{slice_get}
use Rattle.std.proofs.lemmas.Bool.{cases_lt}
use Rattle.std.proofs.lemmas.Option.{slice_get_within}
use Rattle.rcu_world_law.specs.declared.marks.Mark.TheVariants.{Accepted, Ran}
use Rattle.rcu_world_law.specs.Law.{ran}
use Rattle.rcu_world_checker.proofs.Deciding.{found_at, stands_at}
use Rattle.rcu_agreement.specs.Agreement.{count_of}
use Rattle.rcu_agreement_checker.specs.Known.{all_counts}
use Rattle.rcu_agreement_checker.proofs.barriers.is_beyond.Goals as goal
use Rattle.rcu_agreement_checker.proofs.barriers.is_beyond.Goals.{in-Ran+else-count_of-k, in_default}

pub returns-then-count_of-k : goal.returns-then-count_of-k
returns-then-count_of-k c = (
  λ e. absurd cc,
  λ beyond. absurd (
      let s = stands_at c.args.history.now c.loop-u.u (Accepted 0 0) (Ran c.in-Ran.p c.in-Ran.field-1) c.loop-u-test.true c.in-Ran.is in
      omega (arith, beyond.each c.in-Ran.p c.many_of-k.result c.loop-u.u (record { key = c.in-Ran.field-1; stands = s; before = sym c.many_of-k.ensures }) c.loop-u.auto.u, c.count_of.ensures, c.if-count_of-k.true)
      ),
)

pub loop-u-preserved : goal.loop-u-preserved
loop-u-preserved c = λ p k v a from l. elim (cases_lt v c.loop-u.u) [
  | inl below ↦ c.loop-u.invariant p k v a from below
  | inr g ↦
      let here : v ≡ c.loop-u.u = omega arith in
      let found = found_at c.args.history.now c.loop-u.u (Accepted 0 0) (Ran p a.key) (ap (slice_get c.args.history.now) (sym here) ∙ a.stands) in
      let before : length (ran p (take c.loop-u.u c.args.history.now)) ≡ k = ap (λ i. length (ran p (take i c.args.history.now))) (sym here) ∙ a.before in
      elim c.match-history-u.branch [
        | in-Ran+else-count_of-k w ↦
            let same : Ran w.in-Ran.p w.in-Ran.field-1 ≡ Ran p a.key = sym w.in-Ran.is ∙ found in
            let own : w.in-Ran.p ≡ p = cc in
            let beyond : count_of (all_counts c.args.counts.now) c.args.b w.in-Ran.p ≤ length (ran w.in-Ran.p (take c.loop-u.u c.args.history.now)) = omega (arith, w.many_of-k.ensures, w.count_of.ensures, w.if-count_of-k.false) in
            let here : count_of (all_counts c.args.counts.now) c.args.b p ≤ length (ran p (take c.loop-u.u c.args.history.now)) = subst (λ x. count_of (all_counts c.args.counts.now) c.args.b x ≤ length (ran x (take c.loop-u.u c.args.history.now))) own beyond in
            omega (arith, here, before)
        | in_default w ↦ absurd (w.in_default.not-Ran p a.key found)
      ]
]

pub returns : goal.returns
returns c = (
  λ e. record {
    each = λ p k u a from. c.loop-u.invariant p k u a from (omega (arith, slice_get_within c.args.history.now u (Ran p a.key) a.stands, c.loop-u-test.false));
  },
  λ beyond. refl,
)
