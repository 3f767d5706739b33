use Rattle.std.proofs.Common.{◌∙◌, max, ap, sym, refl, subst, arith}
use Rattle.std.specs.Arc.{arc_value}
use Rattle.rcu_board.specs.Seats.{own_word, view}
use Rattle.rcu_board.specs.Roles.{MayNeed}
use Rattle.rcu_board.specs.Words.{needed_word}
use Rattle.rcu_board.proofs.Facts.{same_seat_again}
use Rattle.rcu_numbers.specs.Numbers.{snap_of}
use Rattle.rcu_part_lists.specs.ProcessorLists.{holding}
use Rattle.rcu_part_steps.proofs.Telling.{sight_touched, tells_again, tells_looked, tells_touched}
use Rattle.rcu_part_order.specs.Recorded.{ran_of}
use Rattle.rcu_part_processor.proofs.Keeping.{kept_by_tells}
use Rattle.rcu_part_processor.proofs.Passing.{since_kept, word_looked}
use Rattle.rcu_part_processor.proofs.Standing.{stands}
use Rattle.rcu_board.proofs.Facts.{never_falls_again}
use Rattle.rcu_part_processor.proofs.CatchingUp.{asked_for}
use Rattle.rcu_part_processor.proofs.Polling.{asks_cookie}
use Rattle.rcu_part_processor.proofs.processor.Processor.start_poll.Goals as goal

pub look_at_number-seen-requires : goal.look_at_number-seen-requires
look_at_number-seen-requires g c = let s = c.args.self.now.state in record { board = stands (arc_value s.board) c.deref.result.now s.seat c.deref.ensures s.here }

pub snap-cookie-requires : goal.snap-cookie-requires
snap-cookie-requires g c = c.look_at_number-seen.ensures.sight.1

pub need-requires-clause-board : goal.need-requires-clause-board
need-requires-clause-board g c = let s = c.args.self.now.state in stands (arc_value s.board) c.deref-2.result.now c.look_at_number-seen.new.seat c.deref-2.ensures (c.look_at_number-seen.ensures.same.table ∙ s.here)

pub need-requires-clause-who : goal.need-requires-clause-who
need-requires-clause-who g c = subst MayNeed (sym (c.look_at_number-seen.ensures.same.role ∙ c.args.self.now.state.role)) tt

pub invariant_of-state : goal.invariant_of-state
invariant_of-state g c = let s = c.args.self.now.state in let e = c.look_at_number-seen.ensures in let n = c.need.ensures in
    let v = view s.seat in let u = view c.look_at_number-seen.new.seat in let w = view c.need.new.seat in record {
      here = n.same.table ∙ (e.same.table ∙ s.here);
      role = n.same.role ∙ (e.same.role ∙ s.role);
      there = s.there;
      bit = s.bit;
      local = s.local;
      small = s.small;
      since = since_kept _ _ _ (ap own_word n.view ∙ word_looked c.look_at_number-seen.result v u e.view) s.since;
      lawful = kept_by_tells s.cpu s.accepted _ v w (ran_of s.ran) (holding s.lists)
          (tells_again v u w (tells_looked c.look_at_number-seen.result v u s.lawful.stamped e.view) (tells_touched needed_word (max c.need.result c.snap-cookie.result) u w n.view))
          (never_falls_again _ v u w (e.same.later (arc_value s.board) s.here) (n.same.later (arc_value s.board) (e.same.table ∙ s.here))) s.lawful;
    }

pub returns-clause-cookie : goal.returns-clause-cookie
returns-clause-cookie g c = let e = c.look_at_number-seen.ensures in let n = c.need.ensures in
    c.snap-cookie.ensures.value ∙ ap snap_of (e.sight.0 ∙ sym (sight_touched needed_word (max c.need.result c.snap-cookie.result) (view c.look_at_number-seen.new.seat) (view c.need.new.seat) (λ z. absurd (omega (arith, z))) n.view))

pub returns-clause-asked : goal.returns-clause-asked
returns-clause-asked g c = let s = c.args.self.now.state in let e = c.look_at_number-seen.ensures in let n = c.need.ensures in let w = view c.need.new.seat in record {
  asks = asks_cookie c.look_at_number-seen.result c.need.result c.snap-cookie.result (view s.seat) (view c.look_at_number-seen.new.seat) w e.sight.0 e.view n.view;
  needed = asked_for (arc_value s.board) c.look_at_number-seen.new.seat c.need.result c.snap-cookie.result w (e.same.table ∙ s.here) n.view;
}

pub returns-clause-later : goal.returns-clause-later
returns-clause-later g c = record {
  does = let s = c.args.self.now.state in let e = c.look_at_number-seen.ensures in let n = c.need.ensures in
      let a = (e.same.later (arc_value s.board) s.here).board in let b = (n.same.later (arc_value s.board) (e.same.table ∙ s.here)).board in omega arith;
  same = record { part = record { board = refl; seat = same_seat_again _ _ _ c.look_at_number-seen.ensures.same c.need.ensures.same }; lane = refl; cpu = refl; offloadable = refl; limit = refl; blimit = refl; kept = refl };
  keeps = record { count = refl; lists = refl; records = refl };
  sound = λ sound. record { keyed = sound.keyed; given = sound.given };
}
