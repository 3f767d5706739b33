use Rattle.std.proofs.Common.{◌∙◌, ap, sym, refl, subst}
use Rattle.std.specs.Arc.{arc_value}
use Rattle.rcu_board.specs.Roles.{MayHalt}
use Rattle.rcu_board.specs.Seats.{view}
use Rattle.rcu_board.specs.declared.view.View.{View}
use Rattle.rcu_part_lists.specs.Helds.{taken_by}
use Rattle.rcu_part_hand.proofs.HandRuns.{hand_watched}
use Rattle.rcu_part_hand.proofs.Standing.{stands}
use Rattle.rcu_part_hand.proofs.hand.Hand.is_halted.Goals as goal

pub invariant_of-hand : goal.invariant_of-hand
invariant_of-hand g c = let s = c.args.self.now.state.hand in let e = c.halted.ensures in record { here = e.same.table ∙ s.here; role = e.same.role ∙ s.role }

pub invariant_of-self : goal.invariant_of-self
invariant_of-self g c = let s = c.args.self.now.state in let e = c.halted.ensures in record {
  lawful = hand_watched s.hand.cpu (view s.hand.seat) (view c.halted.new.seat) s.hand.ran.all.items (taken_by s.hand.held) (ap (λ (v : View). v.claims) e.view) (ap (λ (v : View). v.running) e.view) s.lawful;
}

pub halted-requires-clause-board : goal.halted-requires-clause-board
halted-requires-clause-board g c = let s = c.args.self.now.state.hand in stands (arc_value s.board) c.deref.result.now s.seat c.deref.ensures s.here

pub halted-requires-clause-who : goal.halted-requires-clause-who
halted-requires-clause-who g c = subst MayHalt (sym c.args.self.now.state.hand.role) tt

pub returns-clause-same : goal.returns-clause-same
returns-clause-same g c = record { part = record { board = refl; seat = c.halted.ensures.same }; lane = refl; cpu = refl; blimit = refl; kept = refl }

pub returns-clause-lists : goal.returns-clause-lists
returns-clause-lists g c = (refl, refl, refl)

pub returns-clause-view : goal.returns-clause-view
returns-clause-view g c = c.halted.ensures.view

pub returns-clause-sound : goal.returns-clause-sound
returns-clause-sound g c = λ sound. sound
