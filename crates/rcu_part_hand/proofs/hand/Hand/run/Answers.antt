use Rattle.rcu_part_hand.proofs.HandRuns.{records_again, records_kept, same_hand_again, same_hand}
use Rattle.std.proofs.Common.{◌≡◌, false, true, refl}
use Rattle.rcu_part_hand.proofs.hand.Hand.run.Goals as goal

pub returns-in-None-turn_unless_halted-clause-sound : goal.returns-in-None-turn_unless_halted-clause-sound
returns-in-None-turn_unless_halted-clause-sound g c = λ sound. c.turn_unless_halted.ensures.records.sound (c.loop.invariant.sound sound)

pub loop-preserved : goal.loop-preserved
loop-preserved g c = let i = c.loop.invariant in let e = c.turn_unless_halted.ensures in record {
  next = tt;
  finite = tt;
  same = same_hand_again c.args.self.state c.loop.hand.state c.turn_unless_halted.new.self.state i.same e.records.same;
  records = records_again c.args.self.state c.loop.hand.state c.turn_unless_halted.new.self.state i.records e.records.does;
  sound = λ sound. e.records.sound (i.sound sound);
}

pub loop-preserved-in-Some-true : goal.loop-preserved-in-Some-true
loop-preserved-in-Some-true g c = let i = c.loop.invariant in let e = c.turn_unless_halted.ensures in record {
  next = tt;
  finite = tt;
  same = same_hand_again c.args.self.state c.loop.hand.state c.turn_unless_halted.new.self.state i.same e.records.same;
  records = records_again c.args.self.state c.loop.hand.state c.turn_unless_halted.new.self.state i.records e.records.does;
  sound = λ sound. e.records.sound (i.sound sound);
}

pub turn_unless_halted-requires : goal.turn_unless_halted-requires
turn_unless_halted-requires g c = assumption

pub loop-init : goal.loop-init
loop-init g c = record { next = tt; finite = tt; same = same_hand c.args.self.state; records = records_kept c.args.self.state c.args.self.state refl; sound = λ sound. sound }

pub returns-in-None-turn_unless_halted-clause-same : goal.returns-in-None-turn_unless_halted-clause-same
returns-in-None-turn_unless_halted-clause-same g c = same_hand_again c.args.self.state c.loop.hand.state c.turn_unless_halted.new.self.state c.loop.invariant.same c.turn_unless_halted.ensures.records.same

pub returns-in-None-turn_unless_halted-clause-halted : goal.returns-in-None-turn_unless_halted-clause-halted
returns-in-None-turn_unless_halted-clause-halted g c = c.in-None-turn_unless_halted.ensures.halted

pub returns-in-None-turn_unless_halted-clause-records : goal.returns-in-None-turn_unless_halted-clause-records
returns-in-None-turn_unless_halted-clause-records g c = records_again c.args.self.state c.loop.hand.state c.turn_unless_halted.new.self.state c.loop.invariant.records c.turn_unless_halted.ensures.records.does

pub loop-smaller : goal.loop-smaller
loop-smaller g c = (c.in-Some.ensures.goes.on tt).2

pub loop-smaller-in-Some-true : goal.loop-smaller-in-Some-true
loop-smaller-in-Some-true g c = (c.in-Some.ensures.goes.on tt).2

pub unreachable-requires : goal.unreachable-requires
unreachable-requires g c = let f : false ≡ true = c.in-None.ensures.steps in cc
