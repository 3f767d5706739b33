use Rattle.std.proofs.Common.{◌∙◌, ◌≡◌, false, true, refl}
use Rattle.rcu_part_processor.proofs.TickRuns.{records_again, records_kept, same_processor_again, same_processor}
use Rattle.rcu_part_processor.proofs.processor.Processor.run.Goals as goal

pub returns-in-None-turn_unless_halted-clause-sound : goal.returns-in-None-turn_unless_halted-clause-sound
returns-in-None-turn_unless_halted-clause-sound g c = λ sound. c.turn_unless_halted.ensures.records.sound (c.loop.invariant.sound sound)

pub loop-preserved : goal.loop-preserved
loop-preserved g c = let i = c.loop.invariant in let e = c.turn_unless_halted.ensures in record {
  next = tt;
  finite = tt;
  same = same_processor_again c.args.self.state c.loop.processor.state c.turn_unless_halted.new.self.state i.same e.records.same;
  count = e.records.count ∙ i.count;
  accepted = e.accepted ∙ i.accepted;
  records = records_again c.args.self.state c.loop.processor.state c.turn_unless_halted.new.self.state i.records e.records.does;
  sound = λ sound. e.records.sound (i.sound sound);
}

pub turn_unless_halted-requires : goal.turn_unless_halted-requires
turn_unless_halted-requires g c = assumption

pub loop-init : goal.loop-init
loop-init g c = record { next = tt; finite = tt; same = same_processor c.args.self.state; count = refl; accepted = refl; records = records_kept c.args.self.state c.args.self.state refl; sound = λ sound. sound }

pub returns-in-None-turn_unless_halted-clause-same : goal.returns-in-None-turn_unless_halted-clause-same
returns-in-None-turn_unless_halted-clause-same g c = same_processor_again c.args.self.state c.loop.processor.state c.turn_unless_halted.new.self.state c.loop.invariant.same c.turn_unless_halted.ensures.records.same

pub returns-in-None-turn_unless_halted-clause-count : goal.returns-in-None-turn_unless_halted-clause-count
returns-in-None-turn_unless_halted-clause-count g c = c.turn_unless_halted.ensures.records.count ∙ c.loop.invariant.count

pub returns-in-None-turn_unless_halted-clause-accepted : goal.returns-in-None-turn_unless_halted-clause-accepted
returns-in-None-turn_unless_halted-clause-accepted g c = c.turn_unless_halted.ensures.accepted ∙ c.loop.invariant.accepted

pub returns-in-None-turn_unless_halted-clause-halted : goal.returns-in-None-turn_unless_halted-clause-halted
returns-in-None-turn_unless_halted-clause-halted g c = c.in-None-turn_unless_halted.ensures.halted

pub returns-in-None-turn_unless_halted-clause-records : goal.returns-in-None-turn_unless_halted-clause-records
returns-in-None-turn_unless_halted-clause-records g c = records_again c.args.self.state c.loop.processor.state c.turn_unless_halted.new.self.state c.loop.invariant.records c.turn_unless_halted.ensures.records.does

pub loop-smaller : goal.loop-smaller
loop-smaller g c = (c.in-Some.ensures.goes.on tt).2

pub unreachable-requires : goal.unreachable-requires
unreachable-requires g c = let f : false ≡ true = c.in-None.ensures.steps in cc

pub unreachable-unreachable : goal.unreachable-unreachable
unreachable-unreachable g c = c.unreachable.result
