use Rattle.std.specs.Arc.{arc_value}
use Rattle.rcu_board.proofs.Facts.{saw-halt}
use Rattle.rcu_part_hand.proofs.HandRuns.{records_again, records_kept, records_turned, same_hand_again}
use Rattle.rcu_part_hand.proofs.hand.Hand.turn_unless_halted.Goals as goal

pub is_halted-requires : goal.is_halted-requires
is_halted-requires g c = assumption

pub turn-requires : goal.turn-requires
turn-requires g c = assumption

pub returns-then-is_halted-clause-halted : goal.returns-then-is_halted-clause-halted
returns-then-is_halted-clause-halted g c = let s = c.args.self.now.state in saw-halt (arc_value s.hand.board) s.hand.seat c.is_halted.new.self.state.hand.seat c.is_halted.result s.hand.here c.is_halted.ensures.view c.if-is_halted.true

pub returns-then-is_halted-clause-records : goal.returns-then-is_halted-clause-records
returns-then-is_halted-clause-records g c = record {
  does = records_kept c.args.self.now.state c.is_halted.new.self.state c.is_halted.ensures.lists.2;
  same = c.is_halted.ensures.same;
  sound = c.is_halted.ensures.sound;
}

pub returns-clause-records : goal.returns-clause-records
returns-clause-records g c = record {
  does = let p = c.args.self.now.state in let q = c.is_halted.new.self.state in let r = c.turn.new.self.state in
      records_again p q r (records_kept p q c.is_halted.ensures.lists.2) (records_turned c.turn.result q r c.turn.ensures.turn);
  same = same_hand_again c.args.self.now.state c.is_halted.new.self.state c.turn.new.self.state c.is_halted.ensures.same c.turn.ensures.same;
  sound = λ sound. c.turn.ensures.sound (c.is_halted.ensures.sound sound);
}
