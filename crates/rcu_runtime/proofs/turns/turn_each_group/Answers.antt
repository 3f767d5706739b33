use borrow.Author.Rules.{scaled_Fits}
use Rattle.std.proofs.Common.{◌∙◌, ap, arith, length}
use Rattle.std.specs.List.{AllZip}
use Rattle.rcu_runtime.specs.Passing.{PassesGroup}
use Rattle.rcu_runtime.proofs.Changing.{firsts_all, firsts_more, left_by}
use Rattle.rcu_runtime.proofs.turns.turn_each_group.Goals as goal

pub loop-group-init : goal.loop-group-init
loop-group-init g c = c.deref_mut-group-items.ensures.value

pub loop-group-preserved : goal.loop-group-preserved
loop-group-preserved g c = let l = c.loop-group in
    firsts_more PassesGroup l.group-index c.args.groups.now.items l.group-items c.group-item.result c.turn.new.self (omega (arith, l.auto.group-items, c.loop-group-test.true)) (record { same = c.turn.ensures.same; turns = record { answer = c.turn.result; turns = c.turn.ensures.turn; few = c.turn.ensures.few; fresh = c.turn.ensures.fresh } }) l.invariant

pub returns : goal.returns
returns g c = let l = c.loop-group in let old = c.args.groups.now in
    left_by (AllZip PassesGroup old.items) l.group-items old.items old.len (l.auto.group-items ∙ ap length c.deref_mut-group-items.ensures.value) old.ok.0
    (firsts_all PassesGroup l.group-index old.items l.group-items (omega (arith, l.auto.group-items, c.loop-group-test.false)) l.invariant)

pub turn-requires-send-J : goal.turn-requires-send-J
turn-requires-send-J g c κs within = c.type_bounds.send-J

pub turn-requires-send-J-Receipt : goal.turn-requires-send-J-Receipt
turn-requires-send-J-Receipt g c κs within = c.type_bounds.send-J-Receipt

pub turn-requires-after_bounds : goal.turn-requires-after_bounds
turn-requires-after_bounds g c κs within = assumption

pub offset_bounds-group-items-group-index : goal.offset_bounds-group-items-group-index
offset_bounds-group-items-group-index g c = scaled_Fits _ _ _ c.loop-group-test.true assumption
