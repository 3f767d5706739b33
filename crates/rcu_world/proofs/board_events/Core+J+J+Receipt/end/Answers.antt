use Rattle.std.proofs.Common.{rules, ◌≡◌, ◌%◌, ◌&&◌, ap, refl, subst}
use Rattle.std.proofs.lemmas.Bool.{ne_eqb}
use Rattle.rcu_world_law.specs.Lists.{none_owes}
use Rattle.rcu_world.proofs.board_events.Core+J+J+Receipt.end.Goals as goal

pub returns-then-number-ne1 : goal.returns-then-number-ne1
returns-then-number-ne1 g c = record {
  answers = record {
    step = (
        let idle = subst (λ n. n % 4 ≡ 1 → ⊥) c.number.ensures c.if-number-ne1.true in
        (ap (λ b. b && none_owes c.args.self.now.board.owing) (ne_eqb _ 1 idle), refl, refl)
        );
    given = λ a. a;
  };
}

pub returns : goal.returns
returns g c = record {
  answers = record { step = search rules; given = λ a. a };
}
