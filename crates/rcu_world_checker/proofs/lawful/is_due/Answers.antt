use Rattle.std.proofs.Common.{arith, ◌≡◌, refl, subst}
use Rattle.std.proofs.lemmas.Bool.Decides.{nat_tests}
use Rattle.rcu_world_checker.specs.Fits.{IsDue}
use Rattle.rcu_world_checker.specs.Kinds.{IsNth}
use Rattle.rcu_world_checker.specs.declared.kinds.Kind.TheVariants as kinds
use Rattle.rcu_world_checker.proofs.Deciding.{due, due_key, none_due}
use Rattle.rcu_world_checker.proofs.lawful.is_due.Goals as goal

pub returns-then-first-key : goal.returns-then-first-key
returns-then-first-key c =
    let nth = subst (λ k. IsNth kinds.Accepted c.args.history.now c.args.p k c.in-Some.place c.in-Some.first) c.many_of-k.ensures c.in-Some.ensures.found in (
      λ e. subst (IsDue c.args.n c.args.history.now c.args.p) c.if-first-key.true (due c.args.n c.args.history.now c.args.p c.in-Some.place c.in-Some.first nth (c.is_covered.ensures.0 e)),
      λ d. c.is_covered.ensures.1 (due_key c.args.n c.args.history.now c.args.p c.in-Some.place c.in-Some.first c.args.key nth d).1,
    )

pub returns-else-first-key : goal.returns-else-first-key
returns-else-first-key c =
    let nth = subst (λ k. IsNth kinds.Accepted c.args.history.now c.args.p k c.in-Some.place c.in-Some.first) c.many_of-k.ensures c.in-Some.ensures.found in (
      λ e. absurd (let same : c.in-Some.first ≡ c.args.key = grind (arith, nat_tests) in c.if-first-key.false same),
      λ d. absurd (c.if-first-key.false (due_key c.args.n c.args.history.now c.args.p c.in-Some.place c.in-Some.first c.args.key nth d).0),
    )

pub returns-in-None : goal.returns-in-None
returns-in-None c = (
  λ e. absurd cc,
  λ d. absurd (none_due c.args.n c.args.history.now c.args.p c.args.key (omega (arith, c.in-None.ensures.none refl, c.many_of-k.ensures)) d),
)
