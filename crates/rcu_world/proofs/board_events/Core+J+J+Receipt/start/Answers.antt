use Rattle.std.proofs.Common.{rules, ◌∙◌, ◌<◌, subst, sym}
use Rattle.std.proofs.lemmas.Bool.{and_parts, ltb-true}
use Rattle.rcu_numbers.specs.declared.sequence.TheConstants.{GREATEST_NUMBER}
use Rattle.rcu_world.proofs.board_events.Core+J+J+Receipt.start.Goals as goal

pub start-requires : goal.start-requires
start-requires g c =
    let enabled = and_parts _ _ (and_parts _ _ (sym c.may_start.ensures ∙ c.if-not-may_start.false)).1 in
    subst (λ n. n < GREATEST_NUMBER) c.number.ensures (ltb-true c.number.result GREATEST_NUMBER enabled.1)

pub returns-then-not-may_start : goal.returns-then-not-may_start
returns-then-not-may_start g c = record {
  answers = record { step = search rules; given = λ a. a };
}

pub returns : goal.returns
returns g c = record {
  answers = record { step = search rules; given = λ a. a };
}
