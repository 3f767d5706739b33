use Rattle.std.proofs.Common.{◌≡◌, ◌<◌, length, take, ap, sym, subst, ◌∙◌, arith, inl, inr}
use Rattle.std.specs.List.{slice_get}
use Rattle.std.proofs.lemmas.Bool.{cases_lt}
use Rattle.rcu_world_law.specs.declared.marks.Mark.TheVariants.{Accepted}
use Rattle.rcu_world_law.specs.Law.{accepted}
use Rattle.rcu_world_checker.proofs.Deciding.{found_at, stands_at}
use Rattle.rcu_agreement.specs.Agreement.{count_of}
use Rattle.rcu_agreement_checker.specs.Known.{all_counts}
use Rattle.rcu_agreement_checker.proofs.barriers.is_counted.Goals as goal
use Rattle.rcu_agreement_checker.proofs.barriers.is_counted.Goals.{in-Accepted+else-count_of-k, in_default}

pub returns-then-count_of-k : goal.returns-then-count_of-k
returns-then-count_of-k c = (
  λ e. absurd cc,
  λ counted. absurd (
      let within : c.loop-t.t < length c.args.history.now = omega (arith, c.loop-t-test.true, c.requires) in
      let s = stands_at c.args.history.now c.loop-t.t (Accepted 0 0) (Accepted c.in-Accepted.p c.in-Accepted.field-1) within c.in-Accepted.is in
      omega (arith, counted.each c.in-Accepted.p c.many_of-k.result c.loop-t.t (record { key = c.in-Accepted.field-1; stands = s; before = sym c.many_of-k.ensures }) c.loop-t-test.true, c.count_of.ensures, c.if-count_of-k.true)
      ),
)

pub loop-t-preserved : goal.loop-t-preserved
loop-t-preserved c = record {
  each = λ p k t a l. elim (cases_lt t c.loop-t.t) [
    | inl below ↦ c.loop-t.invariant.each p k t a below
    | inr g ↦
        let here : t ≡ c.loop-t.t = omega arith in
        let found = found_at c.args.history.now c.loop-t.t (Accepted 0 0) (Accepted p a.key) (ap (slice_get c.args.history.now) (sym here) ∙ a.stands) in
        let before : length (accepted p (take c.loop-t.t c.args.history.now)) ≡ k = ap (λ i. length (accepted p (take i c.args.history.now))) (sym here) ∙ a.before in
        elim c.match-history-t.branch [
          | in-Accepted+else-count_of-k w ↦
              let same : Accepted w.in-Accepted.p w.in-Accepted.field-1 ≡ Accepted p a.key = sym w.in-Accepted.is ∙ found in
              let own : w.in-Accepted.p ≡ p = cc in
              let within : length (accepted w.in-Accepted.p (take c.loop-t.t c.args.history.now)) < count_of (all_counts c.args.counts.now) c.args.b w.in-Accepted.p = omega (arith, w.many_of-k.ensures, w.count_of.ensures, w.if-count_of-k.false) in
              let here : length (accepted p (take c.loop-t.t c.args.history.now)) < count_of (all_counts c.args.counts.now) c.args.b p = subst (λ x. length (accepted x (take c.loop-t.t c.args.history.now)) < count_of (all_counts c.args.counts.now) c.args.b x) own within in
              omega (arith, here, before)
          | in_default w ↦ absurd (w.in_default.not-Accepted p a.key found)
        ]
  ];
}
