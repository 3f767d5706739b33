use Rattle.std.proofs.Common.{None, Some, ◌≡◌, ◌∙◌, sym, refl}
use Rattle.std.specs.Arc.{arc_value}
use Rattle.rcu_board.specs.Seats.{view}
use Rattle.rcu_part_lists.specs.Helds.{taken_by}
use Rattle.rcu_part_hand.proofs.HandRuns.{hand_watched}
use Rattle.rcu_part_hand.proofs.Standing.{stands}
use Rattle.rcu_part_hand.proofs.in_place.HandInPlace.look.Goals as goal

pub look_at_number-requires : goal.look_at_number-requires
look_at_number-requires g c = let s = c.args.self.now.state in record { board = stands (arc_value s.hand.board) c.deref.result.now s.hand.seat c.deref.ensures s.hand.here }

pub invariant_of-hand : goal.invariant_of-hand
invariant_of-hand g c = let s = c.args.self.now.state.hand in let e = c.look_at_number.ensures in record { here = e.same.table ∙ s.here; role = e.same.role ∙ s.role }

pub invariant_of-self : goal.invariant_of-self
invariant_of-self g c = let s = c.args.self.now.state in let e = c.look_at_number.ensures in record {
  rests = λ r. hand_watched s.hand.cpu (view s.hand.seat) (view c.look_at_number.new.seat) s.hand.ran.all.items (taken_by s.hand.held) e.claims.0 e.claims.1 (s.rests r);
  runs = λ k f. (let x : None ≡ Some k = sym c.requires.rests ∙ f in cc);
}

pub returns-clause-looks : goal.returns-clause-looks
returns-clause-looks g c = record {
  does = λ r. let e = c.look_at_number.ensures in (
    r,
    record { part = record { board = refl; seat = e.same }; lane = refl; cpu = refl; blimit = refl; kept = refl },
    record { step = e.view; sight = sym e.sight.0; held = refl; drawn = refl; records = refl },
  );
  sound = λ sound. sound;
}
