use Rattle.std.specs.Arc.{arc_value}
use Rattle.rcu_board.specs.Seats.{view}
use Rattle.rcu_part_lists.specs.Helds.{drawn_by, held_by}
use Rattle.rcu_part_hand.proofs.HandRuns.{all_as, first_hand}
use Rattle.rcu_part_hand.proofs.hand.Hand.new.Goals as goal

pub invariant_of-result : goal.invariant_of-result
invariant_of-result g c = let q = c.requires.seat in record { here = q.board; role = q.who }

pub invariant_of-result-2 : goal.invariant_of-result-2
invariant_of-result-2 g c = let q = c.requires.seat in record {
  lawful = first_hand (arc_value c.args.board) c.args.cpu (view c.args.seat) c.new.result.all.items (drawn_by c.args.held) (held_by c.args.held) q.first_view (all_as _ _ c.new.ensures.none) c.requires.held.0;
}
