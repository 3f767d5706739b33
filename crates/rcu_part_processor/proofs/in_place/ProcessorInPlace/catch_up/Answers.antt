use Rattle.std.proofs.Common.{max, ap, sym, ◌∙◌, refl, arith, subst, ◌≡◌, None, Some}
use Rattle.std.specs.Arc.{arc_value}
use Rattle.std.specs.Mem.{FitsInMemory}
use denote.Param.{param}
use Rattle.rcu_board.specs.Plays.{looked, touched}
use Rattle.rcu_board.specs.Seats.{own_word, view}
use Rattle.rcu_board.specs.Views.{seen_at}
use Rattle.rcu_board.specs.Words.{needed_word}
use Rattle.rcu_board.specs.declared.view.View.{View}
use Rattle.rcu_part_lists.specs.Aims.{wanted}
use Rattle.rcu_part_lists.specs.ProcessorLists.{Holding, holding}
use Rattle.rcu_part_lists.proofs.Aims.{up-raised}
use Rattle.rcu_part_lists.proofs.Sizes.{in_struct}
use Rattle.rcu_part_order.specs.Recorded.{ran_of}
use Rattle.rcu_part_processor.specs.contracts.in_place.ProcessorInPlace as row
use Rattle.rcu_part_processor.proofs.CatchingUp.{asked_for, asks_none, asks_one, caught_law, caught_local, caught_passes}
use Rattle.rcu_part_processor.proofs.InPlace.{sound_moved_in_place}
use Rattle.rcu_part_steps.proofs.Telling.{sight_touched, tells_again, tells_looked, tells_touched}
use Rattle.rcu_part_processor.proofs.Standing.{same_lane, stands}
use Rattle.rcu_board.specs.Roles.{MayNeed}
use Rattle.rcu_board.proofs.Facts.{same_seat_again}
use Rattle.rcu_part_processor.proofs.Passing.{since_kept, word_looked}
use Rattle.rcu_part_processor.proofs.in_place.ProcessorInPlace.catch_up.Goals as goal

pub look-requires : goal.look-requires
look-requires g c = let h : FitsInMemory (row.the_row (param 0 g.row.J) (param 1 g.row.J-Receipt)) = assumption in
    let s = c.args.self.now.state in let e = c.look_at_number-seen.ensures in let z = (s.rests c.requires.rests).looked in let y = (e.same.later (arc_value s.board) s.here).board in
    (in_struct _ _ _ (in_struct _ _ _ h), (omega (arith, e.sight.0), omega (arith, e.sight.1)))

pub invariant_of-state : goal.invariant_of-state
invariant_of-state g c = let s = c.args.self.now.state in let e = c.look_at_number-seen.ensures in let n = c.need.ensures in let l = c.in-Some.ensures in
    let u = view c.look_at_number-seen.new.seat in let w = view c.need.new.seat in let y = n.same.later (arc_value s.board) (e.same.table ∙ s.here) in let z = e.same.later (arc_value s.board) s.here in record {
      here = n.same.table ∙ (e.same.table ∙ s.here);
      role = n.same.role ∙ (e.same.role ∙ s.role);
      there = s.there;
      bit = s.bit;
      local = caught_local c.look_at_number-seen.result s.offloadable (holding s.lists) (holding c.look.new.self) l.list s.local;
      small = s.small;
      since = since_kept _ _ _ (ap own_word n.view ∙ word_looked c.look_at_number-seen.result _ _ e.view) s.since;
      rests = λ r. caught_law s.cpu s.accepted c.look_at_number-seen.result (view s.seat) w (ran_of s.ran) (holding s.lists) (holding c.look.new.self)
          (tells_again (view s.seat) u w (tells_looked c.look_at_number-seen.result (view s.seat) u (s.rests r).stamped e.view) (tells_touched needed_word (max c.need.result c.in-Some.number) u w n.view))
          l.list l.places (let a = y.board in omega (arith, a, e.sight.0))
          (l.needed (seen_at w needed_word) (up-raised (seen_at (view s.seat) needed_word) (seen_at w needed_word) (holding s.lists).own (let a = y.needed in let b = z.needed in omega arith) (s.rests r).needed)
          (asked_for (arc_value s.board) c.look_at_number-seen.new.seat c.need.result c.in-Some.number w (e.same.table ∙ s.here) n.view)) (s.rests r);
      runs = λ k f. (let x : None ≡ Some k = sym c.requires.rests ∙ f in cc);
    }

pub invariant_of-state-in_default : goal.invariant_of-state-in_default
invariant_of-state-in_default g c = let s = c.args.self.now.state in let e = c.look_at_number-seen.ensures in let l = c.in_default.ensures in
    let w = view c.look_at_number-seen.new.seat in let z = e.same.later (arc_value s.board) s.here in record {
      here = e.same.table ∙ s.here;
      role = e.same.role ∙ s.role;
      there = s.there;
      bit = s.bit;
      local = caught_local c.look_at_number-seen.result s.offloadable (holding s.lists) (holding c.look.new.self) l.list s.local;
      small = s.small;
      since = since_kept _ _ _ (word_looked c.look_at_number-seen.result _ _ e.view) s.since;
      rests = λ r. caught_law s.cpu s.accepted c.look_at_number-seen.result (view s.seat) w (ran_of s.ran) (holding s.lists) (holding c.look.new.self)
          (tells_looked c.look_at_number-seen.result (view s.seat) w (s.rests r).stamped e.view)
          l.list l.places (omega (arith, e.sight.0))
          (l.needed (seen_at w needed_word) (up-raised (seen_at (view s.seat) needed_word) (seen_at w needed_word) (holding s.lists).own z.needed (s.rests r).needed) tt) (s.rests r);
      runs = λ k f. (let x : None ≡ Some k = sym c.requires.rests ∙ f in cc);
    }

pub returns-in-Some-clause-sight : goal.returns-in-Some-clause-sight
returns-in-Some-clause-sight g c = let s = c.args.self.now.state in let e = c.look_at_number-seen.ensures in let n = c.need.ensures in
    (sight_touched needed_word (max c.need.result c.in-Some.number) (view c.look_at_number-seen.new.seat) (view c.need.new.seat) (λ z. absurd (omega (arith, z))) n.view ∙ sym e.sight.0, ap (λ (h : Holding g.row.J.Denot). h.advanced) c.in-Some.ensures.list)

pub look_at_number-seen-requires : goal.look_at_number-seen-requires
look_at_number-seen-requires g c = let s = c.args.self.now.state in record { board = stands (arc_value s.board) c.deref.result.now s.seat c.deref.ensures s.here }

pub need-requires-clause-board : goal.need-requires-clause-board
need-requires-clause-board g c = let s = c.args.self.now.state in stands (arc_value s.board) c.deref-in-Some.result.now c.look_at_number-seen.new.seat c.deref-in-Some.ensures (c.look_at_number-seen.ensures.same.table ∙ s.here)

pub need-requires-clause-who : goal.need-requires-clause-who
need-requires-clause-who g c = subst MayNeed (sym (c.look_at_number-seen.ensures.same.role ∙ c.args.self.now.state.role)) tt

pub returns-in_default-clause-sight : goal.returns-in_default-clause-sight
returns-in_default-clause-sight g c = (sym c.look_at_number-seen.ensures.sight.0, ap (λ (h : Holding g.row.J.Denot). h.advanced) c.in_default.ensures.list)

pub returns-in-Some-clause-catches_up : goal.returns-in-Some-clause-catches_up
returns-in-Some-clause-catches_up g c = record {
  does = λ r. (
    r,
    let s = c.args.self.now.state in record { part = record { board = refl; seat = same_seat_again s.seat c.look_at_number-seen.new.seat c.need.new.seat c.look_at_number-seen.ensures.same c.need.ensures.same }; lane = same_lane s.lists c.look.new.self c.in-Some.ensures.rear; cpu = refl; offloadable = refl; limit = refl; blimit = refl; kept = refl },
    let s = c.args.self.now.state in let e = c.look_at_number-seen.ensures in let n = c.need.ensures in let l = c.in-Some.ensures in record {
      asks = asks_one (wanted c.look_at_number-seen.result (holding s.lists).own) c.need.result c.in-Some.number (looked c.look_at_number-seen.result (view s.seat)) (view c.need.new.seat) (sym l.wanted)
          (n.view ∙ ap (λ (v : View). touched needed_word (max c.need.result c.in-Some.number) v) e.view);
      lists = l.list;
      records = refl;
    },
  );
  count = refl;
  sound = let s = c.args.self.now.state in let l = c.in-Some.ensures in
      sound_moved_in_place g.J.Job.key_of g.J.Job.gives s _ (caught_passes c.look_at_number-seen.result (holding s.lists) (holding c.look.new.self) l.list l.places) refl;
}

pub returns-in_default-clause-catches_up : goal.returns-in_default-clause-catches_up
returns-in_default-clause-catches_up g c = record {
  does = λ r. (
    r,
    record { part = record { board = refl; seat = c.look_at_number-seen.ensures.same }; lane = same_lane c.args.self.now.state.lists c.look.new.self c.in_default.ensures.rear; cpu = refl; offloadable = refl; limit = refl; blimit = refl; kept = refl },
    let s = c.args.self.now.state in let e = c.look_at_number-seen.ensures in let l = c.in_default.ensures in record {
      asks = asks_none (wanted c.look_at_number-seen.result (holding s.lists).own) (looked c.look_at_number-seen.result (view s.seat)) (view c.look_at_number-seen.new.seat) (sym l.wanted) e.view;
      lists = l.list;
      records = refl;
    },
  );
  count = refl;
  sound = let s = c.args.self.now.state in let l = c.in_default.ensures in
      sound_moved_in_place g.J.Job.key_of g.J.Job.gives s _ (caught_passes c.look_at_number-seen.result (holding s.lists) (holding c.look.new.self) l.list l.places) refl;
}
