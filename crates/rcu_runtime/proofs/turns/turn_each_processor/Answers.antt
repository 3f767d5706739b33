use borrow.Author.Rules.{scaled_Fits}
use Rattle.std.proofs.Common.{◌∙◌, ap, arith, get_or, length}
use Rattle.std.specs.List.{AllZip}
use Rattle.rcu_runtime.specs.Passing.{PassesTick}
use Rattle.rcu_runtime.proofs.Wholes.{ticked}
use Rattle.rcu_runtime.proofs.Changing.{firsts_all, firsts_more, left_by}
use Rattle.rcu_runtime.proofs.turns.turn_each_processor.Goals as goal

pub loop-processor-init : goal.loop-processor-init
loop-processor-init g c = c.deref_mut-processor-items.ensures.value

pub loop-processor-preserved : goal.loop-processor-preserved
loop-processor-preserved g c = let l = c.loop-processor in
    firsts_more (PassesTick g.J.Job.key_of g.J.Job.gives c.args.moment) l.processor-index c.args.processors.now.items l.processor-items c.processor-item.result c.tick.new.self (omega (arith, l.auto.processor-items, c.loop-processor-test.true)) (ticked g.J.Job.key_of g.J.Job.gives c.args.moment (get_or l.processor-items l.processor-index c.processor-item.result) c.quiescent.new.self c.tick.new.self c.quiescent.result c.tick.result c.quiescent.ensures.same c.quiescent.ensures.sound (record { reports = c.quiescent.ensures.reports; keeps = c.quiescent.ensures.keeps }) c.tick.ensures.same c.tick.ensures.sound c.tick.ensures.count (record { ticks = c.tick.ensures.ticks; few = c.tick.ensures.few; first = c.tick.ensures.first; fresh = c.tick.ensures.fresh; local = c.tick.ensures.local; none = c.tick.ensures.none })) l.invariant

pub returns : goal.returns
returns g c = let l = c.loop-processor in let old = c.args.processors.now in
    left_by (AllZip (PassesTick g.J.Job.key_of g.J.Job.gives c.args.moment) old.items) l.processor-items old.items old.len (l.auto.processor-items ∙ ap length c.deref_mut-processor-items.ensures.value) old.ok.0
    (firsts_all (PassesTick g.J.Job.key_of g.J.Job.gives c.args.moment) l.processor-index old.items l.processor-items (omega (arith, l.auto.processor-items, c.loop-processor-test.false)) l.invariant)

pub quiescent-requires-send-J : goal.quiescent-requires-send-J
quiescent-requires-send-J g c κs within = c.type_bounds.send-J

pub quiescent-requires-send-J-Receipt : goal.quiescent-requires-send-J-Receipt
quiescent-requires-send-J-Receipt g c κs within = c.type_bounds.send-J-Receipt

pub quiescent-requires-after_bounds : goal.quiescent-requires-after_bounds
quiescent-requires-after_bounds g c κs within = assumption

pub tick-requires-send-J : goal.tick-requires-send-J
tick-requires-send-J g c κs within = c.type_bounds.send-J

pub tick-requires-send-J-Receipt : goal.tick-requires-send-J-Receipt
tick-requires-send-J-Receipt g c κs within = c.type_bounds.send-J-Receipt

pub tick-requires-after_bounds : goal.tick-requires-after_bounds
tick-requires-after_bounds g c κs within = assumption

pub offset_bounds-processor-items-processor-index : goal.offset_bounds-processor-items-processor-index
offset_bounds-processor-items-processor-index g c = scaled_Fits _ _ _ c.loop-processor-test.true assumption
