use Rattle.std.proofs.Common.{◌≢◌, ◌<◌, length, ap, sym, ◌∙◌, subst, arith}
use Rattle.std.proofs.lemmas.List.{take_all}
use Rattle.std.proofs.lemmas.List.Elements.{All-more, All-same}
use Rattle.rcu_part_group.specs.declared.group.Group.{Group}
use Rattle.rcuo_replay.proofs.commands.place_of_group.Goals as goal
use Rattle.rcu_lemmas.proofs.Changed.{same_item}

pub returns-then-number-clause-found : goal.returns-then-number-clause-found
returns-then-number-clause-found g c =
    let there : c.loop-place.place < length c.args.groups.now.items = omega arith in
    (there, λ x is. ap (λ y. y.state.group) (same_item c.args.groups.now.items c.loop-place.place x c.index.result.now there is c.index.ensures) ∙ (sym c.number.ensures ∙ c.if-number.true))

pub loop-place-preserved : goal.loop-place-preserved
loop-place-preserved g c =
    let other : Group g.row.J.Denot g.row.J-Receipt.Denot → Type 0 = λ x. x.state.group ≢ c.args.number in
    All-more other c.args.groups.now.items c.loop-place.place c.index.result.now (omega arith) c.loop-place.invariant (subst other c.index.ensures (λ e. c.if-number.false (c.number.ensures ∙ e)))

pub returns-clause-none : goal.returns-clause-none
returns-clause-none g c =
    All-same (λ x. x.state.group ≢ c.args.number) c.args.groups.now.items _ (sym (take_all c.loop-place.place c.args.groups.now.items (omega arith))) c.loop-place.invariant

pub number-requires-send-J : goal.number-requires-send-J
number-requires-send-J g c κs within = c.type_bounds.send-J

pub number-requires-send-J-Receipt : goal.number-requires-send-J-Receipt
number-requires-send-J-Receipt g c κs within = c.type_bounds.send-J-Receipt

pub number-requires-after_bounds : goal.number-requires-after_bounds
number-requires-after_bounds g c κs within = assumption
