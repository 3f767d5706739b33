use Rattle.std.proofs.Common.{◌∙◌, ap, arith, sym, refl, subst}
use Rattle.rcu_board.specs.Seats.{view}
use Rattle.rcu_board.specs.declared.board.Board.{Board}
use Rattle.rcu_part_lists.specs.ProcessorLists.{holding}
use Rattle.rcu_part_order.specs.Recorded.{ran_of}
use Rattle.rcu_part_processor.proofs.Barring.{opens_law, opens_word, own_is_exact}
use Rattle.std.specs.Arc.{arc_value}
use Rattle.rcu_part_processor.proofs.Standing.{stands}
use Rattle.rcu_board.specs.Roles.{MayCount}
use Rattle.rcu_part_control.specs.Barriers.{Opens}
use Rattle.rcu_part_processor.proofs.Passing.{since_kept}
use Rattle.rcu_part_processor.proofs.processor.Processor.barrier.Goals as goal

pub invariant_of-state : goal.invariant_of-state
invariant_of-state g c = let s = c.args.self.now.state in let e = c.open_barrier.ensures in record {
  here = e.same.table ∙ s.here;
  role = e.same.role ∙ s.role;
  there = s.there;
  bit = s.bit;
  local = s.local;
  small = s.small;
  since = since_kept _ _ _ (opens_word _ c.open_barrier.result _ _ e.opens) s.since;
  lawful = opens_law s.cpu s.accepted _ c.open_barrier.result (view s.seat) (view c.open_barrier.new.seat) (ran_of s.ran) (holding s.lists) e.opens s.lawful;
}

pub returns-clause-own : goal.returns-clause-own
returns-clause-own g c = let s = c.args.self.now.state in let low = s.there in let same = ap (λ (b : Board). b.processors) c.deref.ensures in
    own_is_exact _ s.cpu s.accepted c.open_barrier.result.counts s.seat (ran_of s.ran) (holding s.lists) c.open_barrier.ensures.own (omega (arith, low, same)) s.role s.lawful

pub open_barrier-requires-clause-board : goal.open_barrier-requires-clause-board
open_barrier-requires-clause-board g c = let s = c.args.self.now.state in stands (arc_value s.board) c.deref.result.now s.seat c.deref.ensures s.here

pub open_barrier-requires-clause-who : goal.open_barrier-requires-clause-who
open_barrier-requires-clause-who g c = subst MayCount (sym c.args.self.now.state.role) tt

pub returns-clause-opens : goal.returns-clause-opens
returns-clause-opens g c = record {
  does = subst (λ (b : Board). Opens b.processors c.open_barrier.result (view c.args.self.now.state.seat) (view c.open_barrier.new.seat)) c.deref.ensures c.open_barrier.ensures.opens;
  same = record { part = record { board = refl; seat = c.open_barrier.ensures.same }; lane = refl; cpu = refl; offloadable = refl; limit = refl; blimit = refl; kept = refl };
  keeps = record { count = refl; lists = refl; records = refl };
  sound = λ sound. record { keyed = sound.keyed; given = sound.given };
}
