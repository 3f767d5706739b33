use Rattle.std.proofs.Common.{◌∙◌, ap, sym, refl, subst}
use Rattle.std.specs.Int.{from_bool}
use Rattle.rcu_board.specs.Seats.{own_word, view}
use Rattle.rcu_board.specs.Words.{halt_word}
use Rattle.rcu_part_lists.specs.ProcessorLists.{holding}
use Rattle.rcu_part_order.specs.Recorded.{ran_of}
use Rattle.rcu_part_processor.proofs.Keeping.{kept_by_tells}
use Rattle.rcu_part_steps.proofs.Telling.{tells_touched}
use Rattle.std.specs.Arc.{arc_value}
use Rattle.rcu_part_processor.proofs.Standing.{stands}
use Rattle.rcu_board.specs.Roles.{MayHalt}
use Rattle.rcu_part_processor.proofs.Passing.{since_kept}
use Rattle.rcu_part_processor.proofs.processor.Processor.is_halted.Goals as goal

pub invariant_of-state : goal.invariant_of-state
invariant_of-state g c = let s = c.args.self.now.state in let e = c.halted.ensures in let v = view s.seat in let w = view c.halted.new.seat in record {
  here = e.same.table ∙ s.here;
  role = e.same.role ∙ s.role;
  there = s.there;
  bit = s.bit;
  local = s.local;
  small = s.small;
  since = since_kept _ _ _ (ap own_word e.view) s.since;
  lawful = kept_by_tells s.cpu s.accepted _ v w (ran_of s.ran) (holding s.lists) (tells_touched halt_word (from_bool c.halted.result) v w e.view) (e.same.later (arc_value s.board) s.here) s.lawful;
}

pub halted-requires-clause-board : goal.halted-requires-clause-board
halted-requires-clause-board g c = let s = c.args.self.now.state in stands (arc_value s.board) c.deref.result.now s.seat c.deref.ensures s.here

pub halted-requires-clause-who : goal.halted-requires-clause-who
halted-requires-clause-who g c = subst MayHalt (sym c.args.self.now.state.role) tt

pub returns : goal.returns
returns g c = record {
  reads = record {
    does = c.halted.ensures.view;
    same = record { part = record { board = refl; seat = c.halted.ensures.same }; lane = refl; cpu = refl; offloadable = refl; limit = refl; blimit = refl; kept = refl };
    keeps = record { count = refl; lists = refl; records = refl };
    sound = λ sound. record { keyed = sound.keyed; given = sound.given };
  };
}
