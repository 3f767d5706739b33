-- Seats as they would stand between two steps that were made as one.
use Rattle.std.proofs.Common.{◌≡◌, ◌≢◌, ℕ, ◌+◌, ◌<◌, ◌≤◌, List, [], map, length, get_or, set, sym, ap, ◌∙◌, subst, refl, arith, length-set, get_or-set_other, get_or-set_same}
use Rattle.std.proofs.lemmas.List.{set_comm}
use Rattle.rcu_board.specs.Memory.{many}
use Rattle.rcu_board.specs.Plays.{finished, looked, claiming, touched, stamp_own}
use Rattle.rcu_board.specs.Roles.{SeatOfRole}
use Rattle.rcu_board.specs.Seats.{view, AtBoard, NeverFalls, SameSeat}
use Rattle.rcu_board.specs.Views.{seen_at, sight, tally}
use Rattle.rcu_board.specs.Words.{turns_word}
use Rattle.rcu_board.specs.declared.board.Board.{Board}
use Rattle.rcu_board.specs.declared.board.Seat.{Seat}
use Rattle.rcu_board.specs.declared.view.View.{View}
use Rattle.rcu_board.proofs.Facts.{seen-long, seen-other}
use Rattle.rcu_board.proofs.Later.{later_board, later_turns}

pub ended_role : (s : Seat) (i x : ℕ) → i ≢ 0 → SeatOfRole s.role (many s.seat.table_id) (finished i x (view s), s.seat.me.1)
ended_role s i x off = let r = s.of_role in let c = r.can_step in record {
  can_step = record {
    carries_nothing = c.carries_nothing;
    live = c.live;
    small = let e = seen-other (view s) i 0 x (λ z. off (sym z)) in omega (arith, e, c.small);
    seen_long = length-set (view s).seen i x ∙ c.seen_long;
    steps_long = length-set (view s).steps i (tally (view s) i + 1) ∙ c.steps_long;
  };
  processor = r.processor;
  hand = r.hand;
  own = r.own;
  driver = r.driver;
  control = r.control;
}

-- the seat once its claim has ended
abbrev pub ended : (s : Seat) (i x : ℕ) → i ≢ 0 → Seat
ended s i x off = record { seat = record s.seat { me = (finished i x (view s), s.seat.me.1) }; role = s.role; of_role = ended_role s i x off }

pub same_ended : (s : Seat) (p x : ℕ) (off : turns_word p ≢ 0) → seen_at (view s) (turns_word p) ≤ x → SameSeat s (ended s (turns_word p) x off)
same_ended s p x off h = record {
  role = refl;
  table = refl;
  weight = refl;
  later = λ b at. later_turns b.processors (view s) (record (view s) { running = [] }) (turns_word p) x refl (seen-long b s at) p refl h;
}

-- a finish and a look are one view in either order
pub looked_ended : (i x r : ℕ) (v : View) → i ≢ 0 → finished i x (looked r v) ≡ looked r (finished i x v)
looked_ended i x r v off =
    let seen : set (set v.seen 0 r) i x ≡ set (set v.seen i x) 0 r = set_comm v.seen 0 i r x (λ e. off (sym e)) in
    let first : ℕ = tally v 0 + 1 in let here : ℕ = tally v i + 1 in
    let steps : set (set v.steps 0 first) i (get_or (set v.steps 0 first) i 0 + 1) ≡ set (set v.steps i here) 0 (get_or (set v.steps i here) 0 0 + 1) =
    ap (λ z. set (set v.steps 0 first) i (z + 1)) (get_or-set_other v.steps 0 i first 0 off) ∙ set_comm v.steps 0 i first here (λ e. off (sym e))
    ∙ ap (λ z. set (set v.steps i here) 0 (z + 1)) (sym (get_or-set_other v.steps i 0 here 0 (λ e. off (sym e)))) in
    λ k. record v { own = map (stamp_own r) v.own; running = []; seen = seen k; steps = steps k }

-- a look goes before an end as well
pub same_looked_ended : (s t : Seat) (i x r : ℕ) (off : i ≢ 0) → SameSeat s t → view t ≡ looked r (view s) → SameSeat (ended s i x off) (ended t i x off)
same_looked_ended s t i x r off same is = record {
  role = same.role;
  table = same.table;
  weight = same.weight;
  later = λ b at. let v : View = finished i x (view s) in
      subst (λ (w : View). NeverFalls b.processors v w) (sym (ap (finished i x) is ∙ looked_ended i x r (view s) off))
      (later_board b.processors v (record v { own = map (stamp_own r) v.own }) 0 r refl (seen-long b (ended s i x off) at) refl
      (let e = seen-other (view s) i 0 x (λ z. off (sym z)) in let f = (same.later b at).board in let g = ap sight is in let h = get_or-set_same (view s).seen 0 r 0 (omega (arith, seen-long b s at)) in omega (arith, e, f, g, h)));
}

-- the claim that follows the end
pub same_ended_claiming : (s t : Seat) (p x y q : ℕ) (off : turns_word p ≢ 0) → t.role ≡ s.role → t.seat.table_id ≡ s.seat.table_id → turns_word p < many s.seat.table_id → x ≤ y
    → view t ≡ claiming (turns_word p) y p q (finished (turns_word p) x (view s)) → SameSeat (ended s (turns_word p) x off) t
same_ended_claiming s t p x y q off role table low le is = record {
  role = role;
  table = table;
  weight = ap (λ (v : View). v.weight) is;
  later = λ b at. let v : View = finished (turns_word p) x (view s) in
      subst (λ (w : View). NeverFalls b.processors v w) (sym is)
      (later_turns b.processors v _ (turns_word p) y refl (seen-long b (ended s (turns_word p) x off) at) p refl
      (let h = get_or-set_same (view s).seen (turns_word p) x 0 (omega (arith, s.of_role.can_step.seen_long, low)) in omega (arith, h, le)));
}
