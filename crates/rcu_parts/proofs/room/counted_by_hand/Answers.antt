use Rattle.std.proofs.Common.{◌≤◌, ◌∙◌, Option, length, drop, sym, ap, arith}
use Rattle.std.proofs.lemmas.List.{drop_all}
use Rattle.rcu_part_close.specs.Parts.{HandPart, hand_kept, hand_ran}
use Rattle.rcu_parts.proofs.RoomFor.{all_left, hand_at, many_by_first, no_hand_at, none_after, none_for, others_after}
use Rattle.rcu_parts.proofs.room.counted_by_hand.Goals as goal

pub returns-in-Some-clause-ran : goal.returns-in-Some-clause-ran
returns-in-Some-clause-ran g c = let found = c.in-Some.ensures.lookup in let hands = c.args.hands.now.items in
    c.ran.ensures ∙ hand_at (λ (o : Option (HandPart g.row.J.Denot g.row.J-Receipt.Denot)). length (hand_ran o)) c.args.before c.in-Some.hand.now _ hands c.deref.ensures.value found.1 found.3.0
    ∙ many_by_first (λ (o : Option (HandPart g.row.J.Denot g.row.J-Receipt.Denot)). length (hand_ran o)) c.args.processor.now (drop c.args.before hands) (sym c.is_offloadable.ensures ∙ c.if-not-is_offloadable.false)

pub returns-in-Some-clause-kept : goal.returns-in-Some-clause-kept
returns-in-Some-clause-kept g c = let found = c.in-Some.ensures.lookup in let hands = c.args.hands.now.items in
    c.records_left.ensures ∙ hand_at (λ (o : Option (HandPart g.row.J.Denot g.row.J-Receipt.Denot)). length (hand_kept o)) c.args.before c.in-Some.hand.now _ hands c.deref.ensures.value found.1 found.3.0
    ∙ many_by_first (λ (o : Option (HandPart g.row.J.Denot g.row.J-Receipt.Denot)). length (hand_kept o)) c.args.processor.now (drop c.args.before hands) (sym c.is_offloadable.ensures ∙ c.if-not-is_offloadable.false)

pub returns-in-Some-clause-left : goal.returns-in-Some-clause-left
returns-in-Some-clause-left g c = others_after c.args.before c.args.processor.now c.args.hands.now.items (sym c.is_offloadable.ensures ∙ c.if-not-is_offloadable.false)

pub returns-in-None-clause-ran : goal.returns-in-None-clause-ran
returns-in-None-clause-ran g c = let hands = c.args.hands.now.items in
    no_hand_at (λ (o : Option (HandPart g.row.J.Denot g.row.J-Receipt.Denot)). length (hand_ran o)) c.args.before _ hands c.deref.ensures.value c.in-None.ensures.lookup.3
    ∙ many_by_first (λ (o : Option (HandPart g.row.J.Denot g.row.J-Receipt.Denot)). length (hand_ran o)) c.args.processor.now (drop c.args.before hands) (sym c.is_offloadable.ensures ∙ c.if-not-is_offloadable.false)

pub returns-in-None-clause-kept : goal.returns-in-None-clause-kept
returns-in-None-clause-kept g c = let hands = c.args.hands.now.items in
    no_hand_at (λ (o : Option (HandPart g.row.J.Denot g.row.J-Receipt.Denot)). length (hand_kept o)) c.args.before _ hands c.deref.ensures.value c.in-None.ensures.lookup.3
    ∙ many_by_first (λ (o : Option (HandPart g.row.J.Denot g.row.J-Receipt.Denot)). length (hand_kept o)) c.args.processor.now (drop c.args.before hands) (sym c.is_offloadable.ensures ∙ c.if-not-is_offloadable.false)

pub returns-in-None-clause-left : goal.returns-in-None-clause-left
returns-in-None-clause-left g c = let hands = c.args.hands.now.items in
    let none : length hands ≤ c.args.before = (let l = c.in-None.ensures.lookup.3 in let same = ap length c.deref.ensures.value in omega (arith, l, same)) in
    none_after c.args.processor.now (drop c.args.before hands) (sym c.is_offloadable.ensures ∙ c.if-not-is_offloadable.false) (drop_all c.args.before hands none)

pub returns-then-not-is_offloadable-clause-ran : goal.returns-then-not-is_offloadable-clause-ran
returns-then-not-is_offloadable-clause-ran g c = none_for (λ (o : Option (HandPart g.row.J.Denot g.row.J-Receipt.Denot)). length (hand_ran o)) c.args.processor.now (drop c.args.before c.args.hands.now.items) (sym c.is_offloadable.ensures ∙ c.if-not-is_offloadable.true)

pub returns-then-not-is_offloadable-clause-kept : goal.returns-then-not-is_offloadable-clause-kept
returns-then-not-is_offloadable-clause-kept g c = none_for (λ (o : Option (HandPart g.row.J.Denot g.row.J-Receipt.Denot)). length (hand_kept o)) c.args.processor.now (drop c.args.before c.args.hands.now.items) (sym c.is_offloadable.ensures ∙ c.if-not-is_offloadable.true)

pub returns-then-not-is_offloadable-clause-left : goal.returns-then-not-is_offloadable-clause-left
returns-then-not-is_offloadable-clause-left g c = all_left c.args.processor.now (drop c.args.before c.args.hands.now.items) (sym c.is_offloadable.ensures ∙ c.if-not-is_offloadable.true)

pub is_offloadable-requires : goal.is_offloadable-requires
is_offloadable-requires g c = assumption

pub ran-requires : goal.ran-requires
ran-requires g c = assumption

pub get-requires : goal.get-requires
get-requires g c κs = assumption

pub records_left-requires : goal.records_left-requires
records_left-requires g c = assumption
