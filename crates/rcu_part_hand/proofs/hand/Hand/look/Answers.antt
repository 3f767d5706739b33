use Rattle.std.proofs.Common.{◌∙◌, sym, refl}
use Rattle.rcu_board.specs.Seats.{view}
use Rattle.rcu_part_lists.specs.Helds.{taken_by}
use Rattle.rcu_part_hand.proofs.HandRuns.{hand_watched}
use Rattle.rcu_part_hand.proofs.hand.Hand.look.Goals as goal

pub invariant_of-hand : goal.invariant_of-hand
invariant_of-hand g c = let s = c.args.self.now.state.hand in let e = c.look_at_number.ensures in record { here = e.same.table ∙ s.here; role = e.same.role ∙ s.role }

pub invariant_of-self : goal.invariant_of-self
invariant_of-self g c = let s = c.args.self.now.state in let e = c.look_at_number.ensures in record {
  lawful = hand_watched s.hand.cpu (view s.hand.seat) (view c.look_at_number.new.seat) s.hand.ran.all.items (taken_by s.hand.held) e.claims.0 e.claims.1 s.lawful;
}

pub returns-clause-looks : goal.returns-clause-looks
returns-clause-looks g c = let e = c.look_at_number.ensures in record {
  does = record { step = e.view; sight = sym e.sight.0; held = refl; drawn = refl; records = refl };
  same = record { part = record { board = refl; seat = e.same }; lane = refl; cpu = refl; blimit = refl; kept = refl };
  sound = λ sound. sound;
}
