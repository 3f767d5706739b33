-- An end and a claim that were made by one step, each by itself.
use Rattle.std.proofs.Common.{◌≡◌, ◌≢◌, ℕ, ◌+◌, ◌<◌, [], ◌∷◌, ◌++◌, length, ap, sym, ◌∙◌, refl, arith, length-set, get_or-set_other}
use Rattle.rcu_board.specs.Plays.{claim_of, claiming, finished}
use Rattle.rcu_board.specs.Roles.{MayClaim, cpu_of_role}
use Rattle.rcu_board.specs.Seats.{view, AtBoard, accepted_of, fresh_of, own_word}
use Rattle.rcu_board.specs.Views.{sight, tally}
use Rattle.rcu_board.specs.Words.{turns_word, words_of}
use Rattle.rcu_board.specs.declared.board.Board.{Board}
use Rattle.rcu_board.specs.declared.board.Seat.{Seat}
use Rattle.rcu_board.specs.declared.view.View.{View}
use Rattle.rcu_board.proofs.Stepping.{HasWords, has_words}
use Rattle.rcu_part_steps.specs.Changes.{Claims, Finishes, StepsOnly}
use Rattle.rcu_part_steps.proofs.Claiming.{once_on, turn_near}

pub turn_off : (p : ℕ) → turns_word p ≢ 0
turn_off p e = absurd (omega arith)

module _ (b : Board) (s : Seat) (at : AtBoard b s) (may : MayClaim s.role) (p x : ℕ) (cpu : cpu_of_role s.role ≡ p) where
  near : turns_word p < words_of b.processors
  near = let n = turn_near b s at may in omega (arith, n, cpu)

  pub ends : Finishes (view s) (finished (turns_word p) x (view s))
  ends = record {
    accepted = refl;
    fresh = refl;
    word = refl;
    claims = refl;
    running = refl;
    sights = get_or-set_other (view s).seen (turns_word p) 0 x 0 (λ e. turn_off p (sym e));
  }

  pub ends_only : StepsOnly (turns_word p) 1 (view s) (finished (turns_word p) x (view s))
  ends_only = let v = view s in once_on (words_of b.processors) (turns_word p) x v (record v { running = [] }) (finished (turns_word p) x v) (has_words b s at) near refl refl refl refl

  ended_words : HasWords (words_of b.processors) (finished (turns_word p) x (view s))
  ended_words = let h = has_words b s at in record {
    seen = length-set (view s).seen (turns_word p) x ∙ h.seen;
    steps = length-set (view s).steps (turns_word p) (tally (view s) (turns_word p) + 1) ∙ h.steps;
  }

  module _ (y q : ℕ) (w : View) (is : w ≡ claiming (turns_word p) y p q (finished (turns_word p) x (view s))) where
    pub claims : Claims p q (finished (turns_word p) x (view s)) w
    claims = record {
      accepted = ap accepted_of is;
      fresh = ap fresh_of is;
      word = ap own_word is;
      claims = ap (λ (t : View). t.claims) is;
      running = ap (λ (t : View). t.running) is;
      sights = ap sight is ∙ get_or-set_other (finished (turns_word p) x (view s)).seen (turns_word p) 0 y 0 (λ e. turn_off p (sym e));
    }

    pub claims_only : StepsOnly (turns_word p) 1 (finished (turns_word p) x (view s)) w
    claims_only = let v = finished (turns_word p) x (view s) in
        once_on (words_of b.processors) (turns_word p) y v (record v { claims = v.claims ++ claim_of p q v ∷ []; running = claim_of p q v ∷ [] }) w ended_words near refl refl refl is
