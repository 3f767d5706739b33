use Rattle.std.proofs.Common.{◌<◌, ◌∙◌, ap, sym, refl, subst}
use Rattle.std.specs.Arc.{arc_value}
use Rattle.rcu_board.specs.Roles.{MayCount}
use Rattle.rcu_board.specs.declared.board.Board.{Board}
use Rattle.rcu_board.specs.Seats.{own_word, view}
use Rattle.rcu_board.specs.Words.{turns_word}
use Rattle.rcu_part_lists.specs.ProcessorLists.{holding}
use Rattle.rcu_part_order.specs.Recorded.{ran_of}
use Rattle.rcu_part_processor.proofs.Keeping.{kept_by_tells}
use Rattle.rcu_part_processor.proofs.Standing.{stands}
use Rattle.rcu_part_steps.proofs.Telling.{tells_touched}
use Rattle.rcu_part_processor.proofs.Passing.{since_kept}
use Rattle.rcu_part_processor.proofs.barrier.ProcessorReadsTurns.read_turn.Goals as goal

pub invariant_of-state : goal.invariant_of-state
invariant_of-state g c = let s = c.args.self.now.state in let e = c.turn_of.ensures in let v = view s.seat in let w = view c.turn_of.new.seat in record {
  here = e.same.table ∙ s.here;
  role = e.same.role ∙ s.role;
  there = s.there;
  bit = s.bit;
  local = s.local;
  small = s.small;
  since = since_kept _ _ _ (ap own_word e.view) s.since;
  lawful = kept_by_tells s.cpu s.accepted _ v w (ran_of s.ran) (holding s.lists) (tells_touched (turns_word c.args.p) c.turn_of.result v w e.view) (e.same.later (arc_value s.board) s.here) s.lawful;
}

pub returns-clause-keeps : goal.returns-clause-keeps
returns-clause-keeps g c = record {
  same = record {
    part = record { board = refl; seat = c.turn_of.ensures.same };
    lane = refl;
    cpu = refl;
    offloadable = refl;
    limit = refl;
    blimit = refl;
    kept = refl;
  };
  keeps = record { count = refl; lists = refl; records = refl };
  sound = λ x. record { keyed = x.keyed; given = x.given };
}

pub turn_of-requires-clause-board : goal.turn_of-requires-clause-board
turn_of-requires-clause-board g c = let s = c.args.self.now.state in stands (arc_value s.board) c.deref.result.now s.seat c.deref.ensures s.here

pub turn_of-requires-clause-who : goal.turn_of-requires-clause-who
turn_of-requires-clause-who g c = subst MayCount (sym c.args.self.now.state.role) tt

pub turn_of-requires-clause-processor : goal.turn_of-requires-clause-processor
turn_of-requires-clause-processor g c = subst (λ (b : Board). c.args.p < b.processors) (sym c.deref.ensures) c.requires
