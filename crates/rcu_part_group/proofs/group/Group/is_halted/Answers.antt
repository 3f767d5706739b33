use Rattle.std.proofs.Common.{◌∙◌, refl, subst, sym}
use Rattle.std.specs.Arc.{arc_value}
use Rattle.std.specs.Int.{from_bool}
use Rattle.rcu_board.specs.Seats.{view}
use Rattle.rcu_board.specs.Words.{halt_word}
use Rattle.rcu_part_group.specs.GroupLaw.{group_members_in}
use Rattle.rcu_part_group.proofs.GroupTurns.{group_members_same, lawful_later}
use Rattle.rcu_board.specs.Roles.{MayHalt}
use Rattle.rcu_board.specs.Seats.{AtBoard}
use Rattle.rcu_board.specs.declared.board.Board.{Board}
use Rattle.rcu_part_group.proofs.group.Group.is_halted.Goals as goal

pub invariant_of-state : goal.invariant_of-state
invariant_of-state g c = let s = c.args.self.now.state in let e = c.halted.ensures in record {
  here = e.same.table ∙ s.here;
  role = e.same.role ∙ s.role;
  lawful = lawful_later _ halt_word (from_bool c.halted.result) (view s.seat) (view c.halted.new.seat) s.blimit (group_members_in s.members) e.view (e.same.later (arc_value s.board) s.here) s.lawful;
}

pub returns-clause-same : goal.returns-clause-same
returns-clause-same g c = let s = c.args.self.now.state in record {
  part = record { board = refl; seat = c.halted.ensures.same };
  group = refl;
  blimit = refl;
  members = group_members_same (group_members_in s.members);
}

pub halted-requires-clause-board : goal.halted-requires-clause-board
halted-requires-clause-board g c = let s = c.args.self.now.state in subst (λ (b : Board). AtBoard b s.seat) (sym c.deref.ensures) s.here

pub halted-requires-clause-who : goal.halted-requires-clause-who
halted-requires-clause-who g c = subst MayHalt (sym c.args.self.now.state.role) tt
