use Rattle.std.proofs.Common.{◌∙◌, refl, subst}
use Rattle.rcu_board.proofs.Facts.{same_seat_again}
use Rattle.rcu_board.specs.declared.board.Board.{Board}
use Rattle.rcu_board.specs.Seats.{view}
use Rattle.rcu_part_control.specs.Barriers.{IsRefused}
use Rattle.rcu_part_control.specs.Parts.{control_view}
use Rattle.rcu_part_control.proofs.Urging.{all_urged_lists}
use Rattle.rcu_part_control.proofs.control.Control.barrier.Goals as goal

pub returns-in-Err-clause-opens : goal.returns-in-Err-clause-opens
returns-in-Err-clause-opens c = subst (λ (b : Board). IsRefused b.processors c.args.tickets.now c.in-Err.fault (control_view c.args.self.now) (view c.read_counts-counts.new.seat)) c.deref.ensures
    (record { counts = c.read_counts-counts.result; many = c.read_counts-counts.ensures.many; reads = c.read_counts-counts.ensures.reads; first = c.in-Err.ensures.fault })

pub returns-clause-same : goal.returns-clause-same
returns-clause-same c = record { board = refl; seat = same_seat_again _ _ _ c.read_counts-counts.ensures.same c.urge_all.ensures.same }

pub invariant_of-self-2 : goal.invariant_of-self-2
invariant_of-self-2 c = let s = c.args.self.now in let a = c.read_counts-counts.ensures in let b = c.urge_all.ensures in
    let k = a.reads.steps.lists in let u = all_urged_lists _ _ _ b.urges in record {
      here = b.same.table ∙ (a.same.table ∙ s.here);
      role = b.same.role ∙ (a.same.role ∙ s.role);
      bare = record { own = u.own ∙ (k.own ∙ s.bare.own); claims = u.claims ∙ (k.claims ∙ s.bare.claims); running = u.running ∙ (k.running ∙ s.bare.running) };
    }
