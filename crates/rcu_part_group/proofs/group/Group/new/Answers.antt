use Rattle.std.proofs.Common.{ap}
use Rattle.rcu_board.specs.Seats.{view}
use Rattle.rcu_board.specs.declared.view.View.{View}
use Rattle.rcu_part_group.specs.GroupLaw.{group_members_in}
use Rattle.rcu_part_group.proofs.GroupTurns.{lawful_first}
use Rattle.rcu_part_group.proofs.group.Group.new.Goals as goal

pub invariant_of-result : goal.invariant_of-result
invariant_of-result g c = let q = c.requires.seat in record {
  here = q.board;
  role = q.who;
  lawful = lawful_first (view c.args.seat) c.args.shape.now.blimit (group_members_in c.args.members)
      (record { own = ap (λ (v : View). v.own) q.first_view; claims = ap (λ (v : View). v.claims) q.first_view; running = ap (λ (v : View). v.running) q.first_view })
      c.requires.members c.requires.empty;
}
