use borrow.Author.Rules.{scaled_Fits}
use Rattle.std.proofs.Common.{◌∙◌, ap, arith, length}
use Rattle.std.specs.List.{AllZip}
use Rattle.rcu_runtime.specs.Passing.{PassesHand}
use Rattle.rcu_runtime.proofs.Changing.{firsts_all, firsts_more, left_by}
use Rattle.rcu_runtime.proofs.turns.turn_each_hand.Goals as goal

pub loop-hand-init : goal.loop-hand-init
loop-hand-init g c = c.deref_mut-hand-items.ensures.value

pub loop-hand-preserved : goal.loop-hand-preserved
loop-hand-preserved g c = let l = c.loop-hand in
    firsts_more (PassesHand g.J.Job.key_of g.J.Job.gives) l.hand-index c.args.hands.now.items l.hand-items c.hand-item.result c.turn.new.self (omega (arith, l.auto.hand-items, c.loop-hand-test.true)) (record { same = c.turn.ensures.same; sound = c.turn.ensures.sound; turns = record { answer = c.turn.result; turns = c.turn.ensures.turn; few = c.turn.ensures.few; first = c.turn.ensures.first; again = c.turn.ensures.again; fresh = c.turn.ensures.fresh } }) l.invariant

pub returns : goal.returns
returns g c = let l = c.loop-hand in let old = c.args.hands.now in
    left_by (AllZip (PassesHand g.J.Job.key_of g.J.Job.gives) old.items) l.hand-items old.items old.len (l.auto.hand-items ∙ ap length c.deref_mut-hand-items.ensures.value) old.ok.0
    (firsts_all (PassesHand g.J.Job.key_of g.J.Job.gives) l.hand-index old.items l.hand-items (omega (arith, l.auto.hand-items, c.loop-hand-test.false)) l.invariant)

pub turn-requires-send-J : goal.turn-requires-send-J
turn-requires-send-J g c κs within = c.type_bounds.send-J

pub turn-requires-send-J-Receipt : goal.turn-requires-send-J-Receipt
turn-requires-send-J-Receipt g c κs within = c.type_bounds.send-J-Receipt

pub turn-requires-after_bounds : goal.turn-requires-after_bounds
turn-requires-after_bounds g c κs within = assumption

pub offset_bounds-hand-items-hand-index : goal.offset_bounds-hand-items-hand-index
offset_bounds-hand-items-hand-index g c = scaled_Fits _ _ _ c.loop-hand-test.true assumption
