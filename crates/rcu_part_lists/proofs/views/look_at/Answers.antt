use Rattle.std.proofs.Common.{◌≡◌, ◌≤◌, ◌∙◌, false, cond, Some, None, refl, ap, sym, subst}
use Rattle.rcu_numbers.specs.declared.sequence.TheConstants.{LAST_NUMBER}
use Rattle.rcu_lists.specs.Labels.{MayAccelerate, callbacks_of, carries, after_advance, advanced}
use Rattle.rcu_lists.specs.Segments.{labelled, advanced_by}
use Rattle.rcu_lists.specs.Stamps.{greater, newest_of}
use Rattle.rcu_part_lists.specs.Aims.{AreUpTo, AreAimed, aim, looked, wanted}
use Rattle.rcu_part_lists.proofs.Aims.{greatest-safe, callbacks-relabel, callbacks-looked, may-look, aimed-look, look-needed, look-steps, look-wants, max-later}
use Rattle.rcu_part_lists.proofs.Releases.{other}
use Rattle.rcu_part_lists.proofs.views.look_at.Goals as goal

pub snap-aim-requires : goal.snap-aim-requires
snap-aim-requires g c =
    let xs = labelled c.args.list.now in
    let e = ap callbacks_of c.advance.ensures.list ∙ callbacks-relabel (advanced c.args.seen) xs in
    subst (λ n. n ≤ LAST_NUMBER) (sym (c.newest_with.ensures ∙ ap (greater c.args.seen) c.newest.ensures ∙ ap (λ cs. greater c.args.seen (newest_of cs)) e)) (greatest-safe c.args.seen (callbacks_of xs) c.requires.small c.requires.safe)

pub accelerate-requires : goal.accelerate-requires
accelerate-requires g c =
    let xs = labelled c.args.list.now in
    let e = look-steps c.args.seen c.newest_with.result c.snap-aim.result xs (labelled c.advance.new.self) _ c.advance.ensures.list (c.newest_with.ensures ∙ ap (greater c.args.seen) c.newest.ensures) c.snap-aim.ensures.value refl in
    subst (MayAccelerate c.snap-aim.result) (sym c.advance.ensures.list) (subst (λ s. MayAccelerate s (after_advance c.args.seen xs)) (sym e.0) (may-look (advanced_by c.args.list.now) c.args.seen xs c.requires.later c.requires.aimed))

pub returns-then-accelerate : goal.returns-then-accelerate
returns-then-accelerate g c =
    let xs = labelled c.args.list.now in
    let ys = labelled c.accelerate.new.self in
    let e = look-steps c.args.seen c.newest_with.result c.snap-aim.result xs (labelled c.advance.new.self) ys c.advance.ensures.list (c.newest_with.ensures ∙ ap (greater c.args.seen) c.newest.ensures) c.snap-aim.ensures.value c.accelerate.ensures.list in
    let a = c.accelerate.ensures.advanced ∙ (c.advance.ensures.advanced ∙ max-later (advanced_by c.args.list.now) c.args.seen c.requires.later) in
    record {
      list = e.1;
      wanted = subst (λ b. cond b (Some c.snap-aim.result) None ≡ wanted c.args.seen xs) c.if-accelerate.true (look-wants c.args.seen c.snap-aim.result xs ys c.accelerate.result c.accelerate.ensures.carried e);
      advanced = a;
      callbacks = ap callbacks_of e.1 ∙ callbacks-looked c.args.seen xs;
      aimed = subst (λ n. AreAimed n ys) (sym a) (subst (AreAimed c.args.seen) (sym e.1) (aimed-look (advanced_by c.args.list.now) c.args.seen xs c.requires.later c.requires.aimed));
      needed = λ s h le. subst (AreUpTo s) (sym e.1) (look-needed c.args.seen s xs (λ _. subst (λ n. n ≤ s) e.0 le) h);
      room = λ k h. c.accelerate.ensures.room k (c.advance.ensures.room k h);
    }

pub returns-else-accelerate : goal.returns-else-accelerate
returns-else-accelerate g c =
    let xs = labelled c.args.list.now in
    let ys = labelled c.accelerate.new.self in
    let e = look-steps c.args.seen c.newest_with.result c.snap-aim.result xs (labelled c.advance.new.self) ys c.advance.ensures.list (c.newest_with.ensures ∙ ap (greater c.args.seen) c.newest.ensures) c.snap-aim.ensures.value c.accelerate.ensures.list in
    let a = c.accelerate.ensures.advanced ∙ (c.advance.ensures.advanced ∙ max-later (advanced_by c.args.list.now) c.args.seen c.requires.later) in
    let none : carries (aim c.args.seen xs) (looked c.args.seen xs) ≡ false = ap (carries (aim c.args.seen xs)) (sym e.1) ∙ (ap (λ s. carries s ys) (sym e.0) ∙ (sym c.accelerate.ensures.carried ∙ c.if-accelerate.false)) in
    record {
      list = e.1;
      wanted = subst (λ b. cond b (Some c.snap-aim.result) None ≡ wanted c.args.seen xs) c.if-accelerate.false (look-wants c.args.seen c.snap-aim.result xs ys c.accelerate.result c.accelerate.ensures.carried e);
      advanced = a;
      callbacks = ap callbacks_of e.1 ∙ callbacks-looked c.args.seen xs;
      aimed = subst (λ n. AreAimed n ys) (sym a) (subst (AreAimed c.args.seen) (sym e.1) (aimed-look (advanced_by c.args.list.now) c.args.seen xs c.requires.later c.requires.aimed));
      needed = λ s h le. subst (AreUpTo s) (sym e.1) (look-needed c.args.seen s xs (λ t. absurd (other _ t none)) h);
      room = λ k h. c.accelerate.ensures.room k (c.advance.ensures.room k h);
    }
