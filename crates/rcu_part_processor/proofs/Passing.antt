-- What a processor's report word says over its steps.
use Rattle.std.proofs.Common.{◌≡◌, ℕ, ◌*◌, ap, ◌∙◌, arith}
use Rattle.rcu_board.specs.Plays.{looked}
use Rattle.rcu_board.specs.Seats.{AtBoard, own_word, view}
use Rattle.rcu_board.specs.Views.{sight}
use Rattle.rcu_board.specs.Words.{reports_word, words_of}
use Rattle.rcu_board.specs.declared.board.Board.{Board}
use Rattle.rcu_board.specs.declared.board.Seat.{Seat}
use Rattle.rcu_board.specs.declared.view.View.{View}
use Rattle.rcu_board.proofs.Facts.{word-looked}
use Rattle.rcu_board.proofs.Stepping.{has_words, seen_here, untouched}
use Rattle.rcu_part_steps.specs.Reports.{IsCounted}
use Rattle.rcu_part_processor.specs.Lawful.{IsHereSince}

-- another step leaves it
pub since_kept : (passed : ℕ) (v w : View) → own_word w ≡ own_word v → IsHereSince passed v → IsHereSince passed w
since_kept passed v w e h = record { word = e ∙ h.word; small = h.small }

-- so does a look
pub word_looked : (r : ℕ) (v w : View) → w ≡ looked r v → own_word w ≡ own_word v
word_looked r v w e = ap own_word e ∙ word-looked v r

-- a report says the grace period that counted it, which was seen
pub since_reported : (b : Board) (p s : ℕ) (x y : Seat) → AtBoard b x → IsCounted p s (view x) (view y) → IsHereSince s (view y)
since_reported b p s x y at c =
    let seen : sight (view y) ≡ s = ap sight c.step ∙ ((untouched (reports_word p) 0 (2 * s) (looked s (view x)) (λ e. absurd (omega (arith, e)))).seen
    ∙ seen_here (words_of b.processors) 0 s (view x) (has_words b x at) (omega arith)) in
    let low = y.of_role.can_step.small in
    record { word = c.word; small = omega (arith, low, seen) }
