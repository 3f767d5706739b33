use Rattle.std.proofs.Common.{arith, refl, true}
use Rattle.rcu_runtime.proofs.Drains.{all_shut, still_shut}
use Rattle.rcu_runtime.proofs.Waiting.{drains_by, ends_waiting, not_found, passes_early, waits_more}
use Rattle.rcu_runtime.proofs.drain.Whole+AllParts+Processor+J+Group+J+Hand+J.drain.Goals as goal

pub returns-then-has_run-clause-shut : goal.returns-then-has_run-clause-shut
returns-then-has_run-clause-shut g c = all_shut c.shut_and_open-barrier.result.counts c.has_run.new.self c.has_run.ensures.shut

pub loop-made-preserved : goal.loop-made-preserved
loop-made-preserved g c = record {
  shut = still_shut c.shut_and_open-barrier.result.counts c.has_run.new.self c.turn_all.new.self c.turn_all.ensures.turns.continues.same c.has_run.ensures.shut;
  waits = waits_more c.args.moment c.loop-made._made c.shut_and_open-barrier.result.counts c.shut_and_open-barrier.new.self c.loop-made.self c.has_run.new.self c.turn_all.new.self c.turn_all.result c.loop-made.invariant.waits
      (not_found c.shut_and_open-barrier.result.counts c.has_run.result c.loop-made.self c.has_run.new.self c.has_run.ensures.finds c.if-has_run.false) c.turn_all.ensures.turns;
}

pub returns-clause-shut : goal.returns-clause-shut
returns-clause-shut g c = all_shut c.shut_and_open-barrier.result.counts c.has_run-2.new.self c.has_run-2.ensures.shut

pub shut_and_open-barrier-requires-send-J : goal.shut_and_open-barrier-requires-send-J
shut_and_open-barrier-requires-send-J g c κs within = c.type_bounds.send-J

pub shut_and_open-barrier-requires-after_bounds : goal.shut_and_open-barrier-requires-after_bounds
shut_and_open-barrier-requires-after_bounds g c κs within = assumption

pub loop-made-init : goal.loop-made-init
loop-made-init g c = record { shut = c.shut_and_open-barrier.ensures.shut; waits = refl }

pub has_run-requires-send-J : goal.has_run-requires-send-J
has_run-requires-send-J g c κs within = c.type_bounds.send-J

pub has_run-requires-send-J-Receipt : goal.has_run-requires-send-J-Receipt
has_run-requires-send-J-Receipt g c κs within = c.type_bounds.send-J-Receipt

pub has_run-requires-after_bounds : goal.has_run-requires-after_bounds
has_run-requires-after_bounds g c κs within = assumption

pub returns-then-has_run-clause-drained : goal.returns-then-has_run-clause-drained
returns-then-has_run-clause-drained g c = λ yes. c.has_run.ensures.drained c.if-has_run.true

pub turn_all-requires-send-J : goal.turn_all-requires-send-J
turn_all-requires-send-J g c κs within = c.type_bounds.send-J

pub turn_all-requires-send-J-Receipt : goal.turn_all-requires-send-J-Receipt
turn_all-requires-send-J-Receipt g c κs within = c.type_bounds.send-J-Receipt

pub turn_all-requires-after_bounds : goal.turn_all-requires-after_bounds
turn_all-requires-after_bounds g c κs within = assumption

pub has_run-requires-2-send-J : goal.has_run-requires-2-send-J
has_run-requires-2-send-J g c κs within = c.type_bounds.send-J

pub has_run-requires-2-send-J-Receipt : goal.has_run-requires-2-send-J-Receipt
has_run-requires-2-send-J-Receipt g c κs within = c.type_bounds.send-J-Receipt

pub has_run-requires-2-after_bounds : goal.has_run-requires-2-after_bounds
has_run-requires-2-after_bounds g c κs within = assumption

pub returns-clause-drained : goal.returns-clause-drained
returns-clause-drained g c = c.has_run-2.ensures.drained

pub returns-then-has_run-clause-turns : goal.returns-then-has_run-clause-turns
returns-then-has_run-clause-turns g c = drains_by c.args.moment c.args.turns true c.shut_and_open-barrier.result c.args.self.now c.shut_and_open-barrier.new.self c.has_run.new.self c.shut_and_open-barrier.ensures.begins
    (passes_early c.args.moment c.args.turns c.loop-made._made c.shut_and_open-barrier.result.counts c.has_run.result c.shut_and_open-barrier.new.self c.loop-made.self c.has_run.new.self (omega (arith, c.loop-made-test.true)) c.loop-made.invariant.waits
    c.has_run.ensures.finds c.if-has_run.true)

pub returns-clause-turns : goal.returns-clause-turns
returns-clause-turns g c = drains_by c.args.moment c.args.turns c.has_run-2.result c.shut_and_open-barrier.result c.args.self.now c.shut_and_open-barrier.new.self c.has_run-2.new.self c.shut_and_open-barrier.ensures.begins
    (ends_waiting c.args.moment c.args.turns c.loop-made._made c.shut_and_open-barrier.result.counts c.has_run-2.result c.shut_and_open-barrier.new.self c.loop-made.self c.has_run-2.new.self
    (omega (arith, c.loop-made-test.false, c.loop-made.auto._made-end)) c.loop-made.invariant.waits c.has_run-2.ensures.finds)
