use Rattle.std.proofs.Common.{◌≢◌, ◌<◌, length, ap, sym, ◌∙◌, subst, arith}
use Rattle.std.proofs.lemmas.List.{take_all}
use Rattle.std.proofs.lemmas.List.Elements.{All-more, All-same}
use Rattle.rcu_part_hand.specs.declared.hand.Hand.{Hand}
use Rattle.rcuo_replay.proofs.commands.place_of_hand.Goals as goal
use Rattle.rcu_lemmas.proofs.Changed.{same_item}

pub returns-then-cpu-clause-found : goal.returns-then-cpu-clause-found
returns-then-cpu-clause-found g c =
    let there : c.loop-place.place < length c.args.hands.now.items = omega arith in
    (there, λ x is. ap (λ y. y.state.hand.cpu) (same_item c.args.hands.now.items c.loop-place.place x c.index.result.now there is c.index.ensures) ∙ (sym c.cpu.ensures ∙ c.if-cpu.true))

pub loop-place-preserved : goal.loop-place-preserved
loop-place-preserved g c =
    let other : Hand g.row.J.Denot g.row.J-Receipt.Denot → Type 0 = λ x. x.state.hand.cpu ≢ c.args.cpu in
    All-more other c.args.hands.now.items c.loop-place.place c.index.result.now (omega arith) c.loop-place.invariant (subst other c.index.ensures (λ e. c.if-cpu.false (c.cpu.ensures ∙ e)))

pub returns-clause-none : goal.returns-clause-none
returns-clause-none g c =
    All-same (λ x. x.state.hand.cpu ≢ c.args.cpu) c.args.hands.now.items _ (sym (take_all c.loop-place.place c.args.hands.now.items (omega arith))) c.loop-place.invariant

pub cpu-requires-send-J : goal.cpu-requires-send-J
cpu-requires-send-J g c κs within = c.type_bounds.send-J

pub cpu-requires-send-J-Receipt : goal.cpu-requires-send-J-Receipt
cpu-requires-send-J-Receipt g c κs within = c.type_bounds.send-J-Receipt

pub cpu-requires-after_bounds : goal.cpu-requires-after_bounds
cpu-requires-after_bounds g c κs within = assumption
