use Rattle.std.proofs.Common.{arith, ◌≡◌, subst, length, take, ◌<◌}
use Rattle.rcu_world_law.specs.declared.marks.Mark.TheVariants.{Accepted}
use Rattle.rcu_world_law.specs.Law.{accepted, ran}
use Rattle.rcu_world_checker.proofs.Deciding.{found_at, have_run_more, stands_at}
use Rattle.rcu_world_checker.proofs.lawful.have_run.Goals as goal
use Rattle.rcu_world_checker.proofs.lawful.have_run.Goals.{in-Accepted+else-many_of-k, in_default}

pub returns-then-many_of-k : goal.returns-then-many_of-k
returns-then-many_of-k c = (
  λ e. absurd cc,
  λ h. absurd (
      let s = stands_at c.args.history.now c.loop-place.place (Accepted 0 0) (Accepted c.in-Accepted.p c.in-Accepted.field-1) (omega (arith, c.loop-place-test.true, c.requires.accepted)) c.in-Accepted.is in
      omega (arith, h.each c.in-Accepted.p c.in-Accepted.field-1 c.loop-place.place c.loop-place-test.true s, c.many_of-k.ensures, c.many_of.ensures, c.if-many_of-k.true)
      ),
)

pub loop-place-preserved : goal.loop-place-preserved
loop-place-preserved c = have_run_more c.args.history.now c.loop-place.place c.args.ran c.loop-place.invariant (λ p key s. elim c.match-history-place.branch [
  | in-Accepted+else-many_of-k w ↦
      let t = stands_at c.args.history.now c.loop-place.place (Accepted 0 0) (Accepted w.in-Accepted.p w.in-Accepted.field-1) (omega (arith, c.loop-place-test.true, c.requires.accepted)) w.in-Accepted.is in
      let same : Accepted w.in-Accepted.p w.in-Accepted.field-1 ≡ Accepted p key = cc in
      let own : w.in-Accepted.p ≡ p = cc in
      let ran_more : length (accepted w.in-Accepted.p (take c.loop-place.place c.args.history.now)) < length (ran w.in-Accepted.p (take c.args.ran c.args.history.now)) = omega (arith, w.many_of-k.ensures, w.many_of.ensures, w.if-many_of-k.false) in
      subst (λ x. length (accepted x (take c.loop-place.place c.args.history.now)) < length (ran x (take c.args.ran c.args.history.now))) own ran_more
  | in_default w ↦ absurd (w.in_default.not-Accepted p key (found_at c.args.history.now c.loop-place.place (Accepted 0 0) (Accepted p key) s))
])
