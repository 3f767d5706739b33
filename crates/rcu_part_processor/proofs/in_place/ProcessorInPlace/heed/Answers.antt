use Rattle.std.proofs.Common.{◌≡◌, ℕ, true, false, not, ap, sym, ◌∙◌, refl, subst, arith, None, Some}
use Rattle.std.specs.Arc.{arc_value}
use Rattle.std.specs.Int.{from_bool}
use Rattle.std.specs.Prelude.{bit_and, IsTrue, ◌↔◌}
use Rattle.std.specs.Mem.{FitsInMemory}
use denote.Param.{param}
use Rattle.rcu_numbers.specs.Words.{all_but_of, owes_of}
use Rattle.rcu_board.specs.Plays.{touched, urged}
use Rattle.rcu_board.specs.Roles.{IsProcessor, cpu_of_role}
use Rattle.rcu_board.specs.Seats.{NeverFalls, own_word, view}
use Rattle.rcu_board.specs.declared.board.Board.{Board}
use Rattle.rcu_board.specs.Views.{seen_at}
use Rattle.rcu_board.specs.Words.{asks_word, urge_word, urge_bit}
use Rattle.rcu_board.specs.declared.board.Role.{Role}
use Rattle.rcu_board.specs.declared.view.View.{View}
use Rattle.rcu_board.proofs.Facts.{never_falls_again, same_seat_again}
use Rattle.rcu_part_lists.specs.ProcessorLists.{holding}
use Rattle.rcu_part_lists.proofs.Sizes.{in_struct}
use Rattle.rcu_part_order.specs.Recorded.{ran_of}
use Rattle.rcu_part_processor.specs.contracts.in_place.ProcessorInPlace as row
use Rattle.rcu_part_processor.proofs.Heeding.{heeding, shifts_below, shifts_law, shifts_release}
use Rattle.rcu_part_processor.proofs.InPlace.{sound_moved_in_place}
use Rattle.rcu_part_steps.proofs.Telling.{sight_touched, sight_urged, tells_again, tells_touched, tells_urged, urges}
use Rattle.rcu_part_processor.proofs.Standing.{stands}
use Rattle.rcu_part_processor.proofs.Passing.{since_kept}
use Rattle.rcu_part_processor.proofs.in_place.ProcessorInPlace.heed.Goals as goal

pub heard-urged-requires-clause-who : goal.heard-urged-requires-clause-who
heard-urged-requires-clause-who g c = let s = c.args.self.now.state in
    subst (λ (r : Role). IsProcessor r × (owes_of c.deref-2.result.now.offloadable (cpu_of_role r) ≡ 1)) (sym (c.asked-on.ensures.same.role ∙ s.role))
    (tt, subst (λ (b : Board). owes_of b.offloadable s.cpu ≡ 1) (sym c.deref-2.ensures) (s.bit c.requires.offloadable))

pub release-requires : goal.release-requires
release-requires g c = let h : FitsInMemory (row.the_row (param 0 g.row.J) (param 1 g.row.J-Receipt)) = assumption in in_struct _ _ _ (in_struct _ _ _ h)

pub switch-requires : goal.switch-requires
switch-requires g c = let h : FitsInMemory (row.the_row (param 0 g.row.J) (param 1 g.row.J-Receipt)) = assumption in let s = c.args.self.now.state in let r = c.release.ensures in (
  in_struct _ _ _ (in_struct _ _ _ h),
  shifts_below s.cpu s.accepted (view s.seat) (ran_of s.ran) (holding s.lists) (holding c.release.new.self)
      (shifts_release c.args.moment (not c.asked-on.result) c.heard-urged.result (holding s.lists) (holding c.release.new.self) r.releases) r.places (s.rests c.requires.rests),
)

pub invariant_of-state : goal.invariant_of-state
invariant_of-state g c = let s = c.args.self.now.state in let a = c.asked-on.ensures in let b = c.heard-urged.ensures in let r = c.release.ensures in let k = c.switch.ensures in
    let v = view s.seat in let u = view c.asked-on.new.seat in let w = view c.heard-urged.new.seat in
    let h = holding s.lists in let i = holding c.release.new.self in let j = holding c.switch.new.self in
    let n = (arc_value s.board).processors in let own = cpu_of_role c.asked-on.new.seat.role in let found = seen_at w (urge_word n own) in
    let first : NeverFalls n v u = a.same.later (arc_value s.board) s.here in
    let second : NeverFalls n u w = b.same.later (arc_value s.board) (a.same.table ∙ s.here) in
    let step = urges (arc_value s.board) c.deref-2.result.now c.deref-2.ensures (cpu_of_role c.asked-on.new.seat.role) u w b.view in record {
      here = b.same.table ∙ (a.same.table ∙ s.here);
      role = b.same.role ∙ (a.same.role ∙ s.role);
      there = s.there;
      bit = s.bit;
      local = λ is. (let f : true ≡ false = sym c.requires.offloadable ∙ is in cc);
      small = s.small;
      since = since_kept _ _ _ (ap own_word b.view ∙ ap own_word a.view) s.since;
      rests = λ none. shifts_law s.cpu s.accepted n v w (ran_of s.ran) h j
          (tells_again v u w (tells_touched (asks_word (cpu_of_role s.seat.role)) (from_bool c.asked-on.result) v u a.view) (tells_urged (urge_word n own) found (bit_and found (all_but_of (urge_bit own))) u w step))
          (never_falls_again n v u w first second)
          (heeding c.args.moment c.asked-on.result c.heard-urged.result s.accepted h i j r.releases k.off k.on) (k.places ∙ r.places) (s.rests none);
      runs = λ k f. (let x : None ≡ Some k = sym c.requires.rests ∙ f in cc);
    }

pub returns-clause-sight : goal.returns-clause-sight
returns-clause-sight g c = let s = c.args.self.now.state in let a = c.asked-on.ensures in let b = c.heard-urged.ensures in
    let n = (arc_value s.board).processors in let own = cpu_of_role c.asked-on.new.seat.role in let i = urge_word n own in let found = seen_at (view c.heard-urged.new.seat) i in
    let u = view c.asked-on.new.seat in let w = view c.heard-urged.new.seat in
    let step = urges (arc_value s.board) c.deref-2.result.now c.deref-2.ensures (cpu_of_role c.asked-on.new.seat.role) u w b.view in (
      sight_urged i found (bit_and found (all_but_of (urge_bit own))) u w (λ z. absurd (omega (arith, z))) step
          ∙ sight_touched (asks_word (cpu_of_role s.seat.role)) (from_bool c.asked-on.result) (view s.seat) (view c.asked-on.new.seat) (λ z. absurd (omega (arith, z))) a.view,
      c.switch.ensures.advanced ∙ c.release.ensures.advanced,
    )

pub asked-on-requires-clause-board : goal.asked-on-requires-clause-board
asked-on-requires-clause-board g c = let s = c.args.self.now.state in stands (arc_value s.board) c.deref.result.now s.seat c.deref.ensures s.here

pub asked-on-requires-clause-who : goal.asked-on-requires-clause-who
asked-on-requires-clause-who g c = subst IsProcessor (sym c.args.self.now.state.role) tt

pub heard-urged-requires-clause-board : goal.heard-urged-requires-clause-board
heard-urged-requires-clause-board g c = let s = c.args.self.now.state in stands (arc_value s.board) c.deref-2.result.now c.asked-on.new.seat c.deref-2.ensures (c.asked-on.ensures.same.table ∙ s.here)

pub returns-clause-heeds : goal.returns-clause-heeds
returns-clause-heeds g c = record {
  does = λ r. (
    r,
    record { part = record { board = refl; seat = same_seat_again c.args.self.now.state.seat c.asked-on.new.seat c.heard-urged.new.seat c.asked-on.ensures.same c.heard-urged.ensures.same }; lane = c.switch.ensures.lane ∙ c.release.ensures.lane; cpu = refl; offloadable = refl; limit = refl; blimit = refl; kept = refl },
    let s = c.args.self.now.state in let a = c.asked-on.ensures in let b = c.heard-urged.ensures in
        let n = (arc_value s.board).processors in let own = cpu_of_role c.asked-on.new.seat.role in let i = urge_word n own in let found = seen_at (view c.heard-urged.new.seat) i in
        let u = view c.asked-on.new.seat in let w = view c.heard-urged.new.seat in
        let step = urges (arc_value s.board) c.deref-2.result.now c.deref-2.ensures (cpu_of_role c.asked-on.new.seat.role) u w b.view in
        let later : cpu_of_role c.asked-on.new.seat.role ≡ s.cpu = ap cpu_of_role (a.same.role ∙ s.role) in record {
          on = c.asked-on.result;
          urges = c.heard-urged.result;
          found = found;
          steps = step ∙ (ap (λ (p : ℕ). urged (urge_word n p) found (bit_and found (all_but_of (urge_bit p))) (view c.asked-on.new.seat)) later
              ∙ ap (λ (x : View). urged (urge_word n s.cpu) found (bit_and found (all_but_of (urge_bit s.cpu))) x) (a.view ∙ ap (λ (p : ℕ). touched (asks_word p) (from_bool c.asked-on.result) (view s.seat)) (ap cpu_of_role s.role)));
          heard = subst (λ (p : ℕ). IsTrue c.heard-urged.result ↔ (owes_of found (urge_bit p) ≡ 1)) later (subst (λ (t : Board). IsTrue c.heard-urged.result ↔ (owes_of (seen_at w (urge_word t.processors own)) (urge_bit own) ≡ 1)) c.deref-2.ensures b.heard);
          released = holding c.release.new.self;
          releases = c.release.ensures.releases;
          asked_off = c.switch.ensures.off;
          asked_on = c.switch.ensures.on;
          records = refl;
        },
  );
  count = refl;
  sound = sound_moved_in_place g.J.Job.key_of g.J.Job.gives c.args.self.now.state _ (c.switch.ensures.places ∙ c.release.ensures.places) refl;
}
