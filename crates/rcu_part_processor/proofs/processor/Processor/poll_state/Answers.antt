use Rattle.std.proofs.Common.{ℕ, ◌≤◌, ◌∙◌, ap, refl, subst}
use Rattle.std.specs.Arc.{arc_value}
use Rattle.std.specs.Prelude.{IsTrue, ◌↔◌}
use Rattle.rcu_board.specs.Seats.{view}
use Rattle.rcu_board.specs.Plays.{looked}
use Rattle.rcu_part_lists.specs.ProcessorLists.{holding}
use Rattle.rcu_part_steps.proofs.Telling.{tells_looked}
use Rattle.rcu_part_order.specs.Recorded.{ran_of}
use Rattle.rcu_part_processor.proofs.Keeping.{kept_by_tells}
use Rattle.rcu_part_processor.proofs.Passing.{since_kept, word_looked}
use Rattle.rcu_part_processor.proofs.Standing.{stands}
use Rattle.rcu_part_processor.proofs.processor.Processor.poll_state.Goals as goal

pub look_at_number-seen-requires : goal.look_at_number-seen-requires
look_at_number-seen-requires g c = let s = c.args.self.now.state in record { board = stands (arc_value s.board) c.deref.result.now s.seat c.deref.ensures s.here }

pub invariant_of-state : goal.invariant_of-state
invariant_of-state g c = let s = c.args.self.now.state in let e = c.look_at_number-seen.ensures in let v = view s.seat in let w = view c.look_at_number-seen.new.seat in record {
  here = e.same.table ∙ s.here;
  role = e.same.role ∙ s.role;
  there = s.there;
  bit = s.bit;
  local = s.local;
  small = s.small;
  since = since_kept _ _ _ (word_looked c.look_at_number-seen.result v w e.view) s.since;
  lawful = kept_by_tells s.cpu s.accepted _ v w (ran_of s.ran) (holding s.lists) (tells_looked c.look_at_number-seen.result v w s.lawful.stamped e.view) (e.same.later (arc_value s.board) s.here) s.lawful;
}

pub returns-clause-elapsed : goal.returns-clause-elapsed
returns-clause-elapsed g c = subst (λ (n : ℕ). IsTrue c.done.result ↔ (c.args.cookie ≤ n)) c.look_at_number-seen.ensures.sight.0 c.done.ensures

pub returns-clause-looks : goal.returns-clause-looks
returns-clause-looks g c = record {
  does = let e = c.look_at_number-seen.ensures in e.view ∙ ap (λ n. looked n (view c.args.self.now.state.seat)) e.sight.0;
  same = record { part = record { board = refl; seat = c.look_at_number-seen.ensures.same }; lane = refl; cpu = refl; offloadable = refl; limit = refl; blimit = refl; kept = refl };
  keeps = record { count = refl; lists = refl; records = refl };
  sound = λ sound. record { keyed = sound.keyed; given = sound.given };
}
