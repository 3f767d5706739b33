-- A claim or the end of one is one step on the turn word.
use Rattle.std.proofs.Common.{◌≡◌, ◌≢◌, ℕ, ◌+◌, ◌<◌, List, length, get_or, ap, ◌∙◌, arith, get_or-set_same, get_or-set_other}
use Rattle.rcu_board.specs.Plays.{touched}
use Rattle.rcu_board.specs.Roles.{MayClaim, cpu_of_role}
use Rattle.rcu_board.specs.Seats.{view, AtBoard, accepted_of, fresh_of, own_word}
use Rattle.rcu_board.specs.Views.{seen_at, tally}
use Rattle.rcu_board.specs.Words.{turns_word, words_of}
use Rattle.rcu_board.specs.declared.board.Board.{Board}
use Rattle.rcu_board.specs.declared.board.Seat.{Seat}
use Rattle.rcu_board.specs.declared.view.View.{View}
use Rattle.rcu_board.proofs.Facts.{words-at}
use Rattle.rcu_board.proofs.Roles.{claims_near}
use Rattle.rcu_board.proofs.Stepping.{HasWords, seen_here}
use Rattle.rcu_part_steps.specs.Changes.{Keeps, StepsOnly}

-- the turn word of who may claim is one of the board's
pub turn_near : (b : Board) (s : Seat) → AtBoard b s → MayClaim s.role → turns_word (cpu_of_role s.role) < words_of b.processors
turn_near b s at may = let near = claims_near s.role _ s.seat.me s.of_role may in let fit = words-at b s at in omega arith

-- one step on word i, by which claims may change besides
pub once_on : (k i x : ℕ) (v u w : View) → HasWords k v → i < k → u.own ≡ v.own → u.seen ≡ v.seen → u.steps ≡ v.steps → w ≡ touched i x u → StepsOnly i 1 v w
once_on k i x v u w long low own seen steps e = record {
  own = ap (λ (t : View). t.own) e ∙ own;
  steps = ap (λ (t : View). tally t i) e ∙ (get_or-set_same u.steps i (tally u i + 1) 0 (let same = ap (λ (l : List ℕ). length l) steps in let fit = long.steps in omega arith)
      ∙ ap (λ (l : List ℕ). get_or l i 0 + 1) steps);
  others = λ j ne. record {
    seen = ap (λ (t : View). seen_at t j) e ∙ (get_or-set_other u.seen i j x 0 ne ∙ ap (λ (l : List ℕ). get_or l j 0) seen);
    steps = ap (λ (t : View). tally t j) e ∙ (get_or-set_other u.steps i j (tally u i + 1) 0 ne ∙ ap (λ (l : List ℕ). get_or l j 0) steps);
  };
}

pub keeps_touched : (i x : ℕ) (v w : View) → w ≡ touched i x v → Keeps v w
keeps_touched i x v w e = record { accepted = ap accepted_of e; fresh = ap fresh_of e; word = ap own_word e; claims = ap (λ (t : View). t.claims) e; running = ap (λ (t : View). t.running) e }

pub seen_now : (k i x : ℕ) (v w : View) → HasWords k v → i < k → w ≡ touched i x v → seen_at w i ≡ x
seen_now k i x v w long low e = ap (λ (t : View). seen_at t i) e ∙ seen_here k i x v long low
