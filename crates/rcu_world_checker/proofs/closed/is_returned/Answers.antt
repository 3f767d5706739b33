use Rattle.std.proofs.Common.{arith, rules, ◌≡◌, ◌+◌, ◌<◌, length, refl, subst, take}
use Rattle.std.proofs.lemmas.Bool.Decides.{nat_tests}
use Rattle.rcu_world_law.specs.Law.{back, ran}
use Rattle.rcu_world_checker.specs.Kinds.{IsNth}
use Rattle.rcu_world_checker.specs.Returns.{IsReturned}
use Rattle.rcu_world_checker.specs.declared.kinds.Kind.TheVariants as kinds
use Rattle.rcu_world_checker.proofs.Deciding.{none_returned, returned, returned_key}
use Rattle.rcu_world_checker.proofs.Settling.{few_ended, fewer_back}
use Rattle.rcu_world_checker.proofs.closed.is_returned.Goals as goal

pub overflow_add-ran : goal.overflow_add-ran
overflow_add-ran c =
    let l : length c.args.history.now < 18446744073709551616 = search rules in
    omega (arith, few_ended c.args.p c.args.history.now, fewer_back c.args.p c.args.history.now c.args.place, c.many_of-ran.ensures, c.many_of-back.ensures)

pub returns-then-first-key : goal.returns-then-first-key
returns-then-first-key c =
    let ended : c.many_of-ran.result + c.many_of-back.result ≡ length (ran c.args.p c.args.history.now) + length (back c.args.p (take c.args.place c.args.history.now)) = omega (arith, c.many_of-ran.ensures, c.many_of-back.ensures) in
    let nth = subst (λ k. IsNth kinds.Accepted c.args.history.now c.args.p k c.in-Some._accepted c.in-Some.first) ended c.in-Some.ensures.found in (
      λ e. subst (IsReturned c.args.history.now c.args.place c.args.p) c.if-first-key.true (returned c.args.history.now c.args.place c.args.p c.in-Some._accepted c.in-Some.first nth (c.has_shut.ensures.0 e)),
      λ r. c.has_shut.ensures.1 r.shut,
    )

pub returns-else-first-key : goal.returns-else-first-key
returns-else-first-key c =
    let ended : c.many_of-ran.result + c.many_of-back.result ≡ length (ran c.args.p c.args.history.now) + length (back c.args.p (take c.args.place c.args.history.now)) = omega (arith, c.many_of-ran.ensures, c.many_of-back.ensures) in
    let nth = subst (λ k. IsNth kinds.Accepted c.args.history.now c.args.p k c.in-Some._accepted c.in-Some.first) ended c.in-Some.ensures.found in (
      λ e. absurd (let same : c.in-Some.first ≡ c.args.key = grind (arith, nat_tests) in c.if-first-key.false same),
      λ r. absurd (c.if-first-key.false (returned_key c.args.history.now c.args.place c.args.p c.in-Some._accepted c.in-Some.first c.args.key nth r)),
    )

pub returns-in-None : goal.returns-in-None
returns-in-None c = (
  λ e. absurd cc,
  λ r. absurd (none_returned c.args.history.now c.args.place c.args.p c.args.key (omega (arith, c.in-None.ensures.none refl, c.many_of-ran.ensures, c.many_of-back.ensures)) r),
)
