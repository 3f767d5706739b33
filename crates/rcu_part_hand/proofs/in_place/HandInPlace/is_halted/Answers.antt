use Rattle.std.proofs.Common.{◌≡◌, None, Some, ◌∙◌, ap, sym, refl, subst}
use Rattle.std.specs.Arc.{arc_value}
use Rattle.rcu_board.specs.Roles.{MayHalt}
use Rattle.rcu_board.specs.Seats.{view}
use Rattle.rcu_board.specs.declared.view.View.{View}
use Rattle.rcu_part_lists.specs.Helds.{taken_by}
use Rattle.rcu_part_hand.proofs.HandRuns.{hand_watched}
use Rattle.rcu_part_hand.proofs.Standing.{stands}
use Rattle.rcu_part_hand.proofs.in_place.HandInPlace.is_halted.Goals as goal

pub invariant_of-hand : goal.invariant_of-hand
invariant_of-hand g c = let s = c.args.self.now.state.hand in let e = c.halted.ensures in record { here = e.same.table ∙ s.here; role = e.same.role ∙ s.role }

pub invariant_of-self : goal.invariant_of-self
invariant_of-self g c = let s = c.args.self.now.state in let e = c.halted.ensures in record {
  rests = λ r. hand_watched s.hand.cpu (view s.hand.seat) (view c.halted.new.seat) s.hand.ran.all.items (taken_by s.hand.held) (ap (λ (v : View). v.claims) e.view) (ap (λ (v : View). v.running) e.view) (s.rests r);
  runs = λ k f. (let x : None ≡ Some k = sym c.requires.rests ∙ f in cc);
}

pub returns : goal.returns
returns g c = record {
  reads = record {
    does = λ r. let e = c.halted.ensures in (
      r,
      record { part = record { board = refl; seat = e.same }; lane = refl; cpu = refl; blimit = refl; kept = refl },
      record { view = e.view; held = refl; drawn = refl; records = refl },
    );
    sound = λ sound. sound;
  };
}

pub halted-requires-clause-board : goal.halted-requires-clause-board
halted-requires-clause-board g c = let s = c.args.self.now.state.hand in stands (arc_value s.board) c.deref.result.now s.seat c.deref.ensures s.here

pub halted-requires-clause-who : goal.halted-requires-clause-who
halted-requires-clause-who g c = subst MayHalt (sym c.args.self.now.state.hand.role) tt
