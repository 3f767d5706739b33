use Rattle.std.proofs.Common.{◌∙◌, ap}
use Rattle.std.specs.Arc.{arc_value}
use Rattle.rcu_board.proofs.Facts.{saw-halt}
use Rattle.rcu_board.specs.Seats.{accepted_of}
use Rattle.rcu_part_processor.proofs.Accepted.{accepted_told, accepted_ticked}
use Rattle.rcu_part_processor.proofs.TickRuns.{records_again, records_kept, records_ticked, same_processor_again}
use Rattle.rcu_part_processor.proofs.processor.Processor.turn_unless_halted.Goals as goal

pub is_halted-requires : goal.is_halted-requires
is_halted-requires g c = assumption

pub returns-then-is_halted-clause-halted : goal.returns-then-is_halted-clause-halted
returns-then-is_halted-clause-halted g c = let s = c.args.self.now.state in saw-halt (arc_value s.board) s.seat c.is_halted.new.self.state.seat c.is_halted.result s.here c.is_halted.ensures.reads.does c.if-is_halted.true

pub quiescent-requires : goal.quiescent-requires
quiescent-requires g c = assumption

pub tick-ticked-requires : goal.tick-ticked-requires
tick-ticked-requires g c = assumption

pub returns-then-is_halted-clause-accepted : goal.returns-then-is_halted-clause-accepted
returns-then-is_halted-clause-accepted g c = ap accepted_of c.is_halted.ensures.reads.does

pub returns-then-counted-clause-accepted : goal.returns-then-counted-clause-accepted
returns-then-counted-clause-accepted g c = let q = c.quiescent.new.self.state in
    accepted_ticked c.args.moment c.tick-ticked.result q c.tick-ticked.new.self.state c.tick-ticked.ensures.ticks
    ∙ (accepted_told c.quiescent.result c.is_halted.new.self.state q c.quiescent.ensures.reports ∙ ap accepted_of c.is_halted.ensures.reads.does)

pub returns-else-counted-clause-accepted : goal.returns-else-counted-clause-accepted
returns-else-counted-clause-accepted g c = let q = c.quiescent.new.self.state in
    accepted_ticked c.args.moment c.tick-ticked.result q c.tick-ticked.new.self.state c.tick-ticked.ensures.ticks
    ∙ (accepted_told c.quiescent.result c.is_halted.new.self.state q c.quiescent.ensures.reports ∙ ap accepted_of c.is_halted.ensures.reads.does)

pub returns-then-is_halted-clause-records : goal.returns-then-is_halted-clause-records
returns-then-is_halted-clause-records g c = record {
  does = records_kept c.args.self.now.state c.is_halted.new.self.state c.is_halted.ensures.reads.keeps.records;
  same = c.is_halted.ensures.reads.same;
  count = c.is_halted.ensures.reads.keeps.count;
  sound = c.is_halted.ensures.reads.sound;
}

pub returns-then-counted-clause-records : goal.returns-then-counted-clause-records
returns-then-counted-clause-records g c = record {
  does = let p = c.args.self.now.state in let q = c.quiescent.new.self.state in let r = c.tick-ticked.new.self.state in
      records_again p q r (records_kept p q (c.quiescent.ensures.keeps.records ∙ c.is_halted.ensures.reads.keeps.records)) (records_ticked c.args.moment c.tick-ticked.result q r c.tick-ticked.ensures.ticks);
  same = let p = c.args.self.now.state in let q = c.quiescent.new.self.state in
      same_processor_again p q c.tick-ticked.new.self.state (same_processor_again p c.is_halted.new.self.state q c.is_halted.ensures.reads.same c.quiescent.ensures.same) c.tick-ticked.ensures.same;
  count = c.tick-ticked.ensures.count ∙ (c.quiescent.ensures.keeps.count ∙ c.is_halted.ensures.reads.keeps.count);
  sound = λ sound. c.tick-ticked.ensures.sound (c.quiescent.ensures.sound (c.is_halted.ensures.reads.sound sound));
}

pub returns-else-counted-clause-records : goal.returns-else-counted-clause-records
returns-else-counted-clause-records g c = record {
  does = let p = c.args.self.now.state in let q = c.quiescent.new.self.state in let r = c.tick-ticked.new.self.state in
      records_again p q r (records_kept p q (c.quiescent.ensures.keeps.records ∙ c.is_halted.ensures.reads.keeps.records)) (records_ticked c.args.moment c.tick-ticked.result q r c.tick-ticked.ensures.ticks);
  same = let p = c.args.self.now.state in let q = c.quiescent.new.self.state in
      same_processor_again p q c.tick-ticked.new.self.state (same_processor_again p c.is_halted.new.self.state q c.is_halted.ensures.reads.same c.quiescent.ensures.same) c.tick-ticked.ensures.same;
  count = c.tick-ticked.ensures.count ∙ (c.quiescent.ensures.keeps.count ∙ c.is_halted.ensures.reads.keeps.count);
  sound = λ sound. c.tick-ticked.ensures.sound (c.quiescent.ensures.sound (c.is_halted.ensures.reads.sound sound));
}
