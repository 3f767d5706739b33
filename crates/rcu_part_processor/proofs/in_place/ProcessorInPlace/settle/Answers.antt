use Rattle.std.proofs.Common.{◌≡◌, ℕ, true, false, ap, sym, ◌∙◌, refl, subst, arith, ◌/◌, ◌<◌, None, Some}
use Rattle.std.specs.Mem.{FitsInMemory}
use denote.Param.{param}
use Rattle.rcu_board.specs.Plays.{touched}
use Rattle.rcu_board.specs.Seats.{own_word, view}
use Rattle.rcu_board.specs.Views.{seen_at}
use Rattle.rcu_board.specs.Words.{turns_word}
use Rattle.rcu_board.specs.declared.view.View.{View}
use Rattle.rcu_board.proofs.Facts.{seen-touched, words-of-processor, same_seat}
use Rattle.rcu_part_lists.specs.ProcessorLists.{Holding, holding, passed_on, put_by}
use Rattle.rcu_jobs.specs.Modes.{is_deoffloading}
use Rattle.rcu_part_lists.specs.Modes.{settled}
use Rattle.rcu_part_lists.specs.Limits.{AreBelow}
use Rattle.rcu_part_lists.proofs.Sizes.{in_struct}
use Rattle.rcu_part_order.specs.Recorded.{ran_of}
use Rattle.rcu_part_processor.specs.contracts.in_place.ProcessorInPlace as row
use Rattle.rcu_part_processor.proofs.Heeding.{settled_law}
use Rattle.rcu_part_processor.proofs.InPlace.{sound_moved_in_place}
use Rattle.rcu_part_steps.proofs.Telling.{sight_touched, tells_touched}
use Rattle.std.specs.Arc.{arc_value}
use Rattle.rcu_part_processor.proofs.Standing.{same_lane, stands}
use Rattle.rcu_board.specs.Roles.{MayCount}
use Rattle.rcu_board.specs.declared.board.Board.{Board}
use Rattle.rcu_part_processor.proofs.Passing.{since_kept}
use Rattle.rcu_part_processor.proofs.in_place.ProcessorInPlace.settle.Goals as goal

pub mode-requires : goal.mode-requires
mode-requires g c = let h : FitsInMemory (row.the_row (param 0 g.row.J) (param 1 g.row.J-Receipt)) = assumption in in_struct _ _ _ (in_struct _ _ _ h)

pub settle-requires : goal.settle-requires
settle-requires g c = let h : FitsInMemory (row.the_row (param 0 g.row.J) (param 1 g.row.J-Receipt)) = assumption in in_struct _ _ _ (in_struct _ _ _ h)

pub invariant_of-state : goal.invariant_of-state
invariant_of-state g c = let s = c.args.self.now.state in let e = c.turn_of-turn.ensures in let h = holding s.lists in record {
  here = e.same.table ∙ s.here;
  role = e.same.role ∙ s.role;
  there = s.there;
  bit = s.bit;
  local = λ is. (let f : true ≡ false = sym c.requires.offloadable ∙ is in cc);
  small = s.small;
  since = since_kept _ _ _ (ap own_word e.view) s.since;
  rests = λ r. settled_law s.cpu s.accepted _ (view s.seat) (view c.turn_of-turn.new.seat) (ran_of s.ran) h (holding c.settle.new.self) (settled h.left c.turn_of-turn.result h.mode)
      (tells_touched (turns_word s.cpu) c.turn_of-turn.result (view s.seat) (view c.turn_of-turn.new.seat) e.view) (e.same.later (arc_value s.board) s.here) c.settle.ensures.settled (s.rests r);
  runs = λ k f. (let x : None ≡ Some k = sym c.requires.rests ∙ f in cc);
}

pub invariant_of-state-else-is_deoffloading : goal.invariant_of-state-else-is_deoffloading
invariant_of-state-else-is_deoffloading g c = let s = c.args.self.now.state in record { here = s.here; role = s.role; there = s.there; bit = s.bit; local = s.local; small = s.small; since = s.since; rests = s.rests; runs = s.runs }

pub returns-then-is_deoffloading-clause-sight : goal.returns-then-is_deoffloading-clause-sight
returns-then-is_deoffloading-clause-sight g c = let s = c.args.self.now.state in let e = c.turn_of-turn.ensures in
    (sight_touched (turns_word s.cpu) c.turn_of-turn.result (view s.seat) (view c.turn_of-turn.new.seat) (λ z. absurd (omega (arith, z))) e.view, ap (λ (h : Holding g.row.J.Denot). h.advanced) c.settle.ensures.settled)

pub turn_of-turn-requires-clause-board : goal.turn_of-turn-requires-clause-board
turn_of-turn-requires-clause-board g c = let s = c.args.self.now.state in stands (arc_value s.board) c.deref.result.now s.seat c.deref.ensures s.here

pub turn_of-turn-requires-clause-who : goal.turn_of-turn-requires-clause-who
turn_of-turn-requires-clause-who g c = subst MayCount (sym c.args.self.now.state.role) tt

pub turn_of-turn-requires-clause-processor : goal.turn_of-turn-requires-clause-processor
turn_of-turn-requires-clause-processor g c = let s = c.args.self.now.state in subst (λ (b : Board). s.cpu < b.processors) (sym c.deref.ensures) s.there

pub returns-else-is_deoffloading-clause-sight : goal.returns-else-is_deoffloading-clause-sight
returns-else-is_deoffloading-clause-sight g c = (refl, refl)

pub returns-then-is_deoffloading-clause-settles : goal.returns-then-is_deoffloading-clause-settles
returns-then-is_deoffloading-clause-settles g c = record {
  does = λ r. (
    r,
    record { part = record { board = refl; seat = c.turn_of-turn.ensures.same }; lane = same_lane c.args.self.now.state.lists c.settle.new.self c.settle.ensures.rear; cpu = refl; offloadable = refl; limit = refl; blimit = refl; kept = refl },
    let s = c.args.self.now.state in let e = c.turn_of-turn.ensures in let h = holding s.lists in let turn = c.turn_of-turn.result in let w = view c.turn_of-turn.new.seat in
        let found : turn ≡ seen_at w (turns_word s.cpu) = sym (ap (λ (v : View). seen_at v (turns_word s.cpu)) e.view ∙ seen-touched s.seat (turns_word s.cpu) turn (let i = words-of-processor s.seat s.cpu s.role in omega arith)) in
        let leaving : is_deoffloading h.mode ≡ true = sym (c.is_deoffloading.ensures ∙ ap is_deoffloading c.mode.ensures) ∙ c.if-is_deoffloading.true in record {
          leaving = λ yes. (e.view ∙ ap (λ (t : ℕ). touched (turns_word s.cpu) t (view s.seat)) found, c.settle.ensures.settled ∙ ap (λ (t : ℕ). record h { mode = settled h.left t h.mode }) found);
          others = λ no. (let f : true ≡ false = sym leaving ∙ no in cc);
          local = λ was is. subst (λ (t : ℕ). AreBelow (t / 2) (put_by (holding c.settle.new.self))) found (c.settle.ensures.local was is);
          records = refl;
        },
  );
  count = refl;
  sound = sound_moved_in_place g.J.Job.key_of g.J.Job.gives c.args.self.now.state _ (ap (λ (h : Holding g.row.J.Denot). passed_on h) c.settle.ensures.settled) refl;
}

pub returns-else-is_deoffloading-clause-settles : goal.returns-else-is_deoffloading-clause-settles
returns-else-is_deoffloading-clause-settles g c = record {
  does = λ r. (
    r,
    record { part = record { board = refl; seat = same_seat _ }; lane = refl; cpu = refl; offloadable = refl; limit = refl; blimit = refl; kept = refl },
    let h = holding c.args.self.now.state.lists in
        let stays : is_deoffloading h.mode ≡ false = sym (c.is_deoffloading.ensures ∙ ap is_deoffloading c.mode.ensures) ∙ c.if-is_deoffloading.false in record {
          leaving = λ yes. (let f : true ≡ false = sym yes ∙ stays in cc);
          others = λ no. (refl, refl);
          local = λ was is. (let f : true ≡ false = sym is ∙ was in cc);
          records = refl;
        },
  );
  count = refl;
  sound = λ sound. record { keyed = sound.keyed; given = sound.given };
}
