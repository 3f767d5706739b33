-- Seats that become one at `close`, and what the last loads tell: docs/specification/definitions.md, "The running parts: views", merge.
use Rattle.std.specs.Prelude.{◌≡◌, ℕ, ◌%◌, ◌<◌, ◌≤◌, List, [], ◌∷◌}
use Rattle.rcu_board.specs.Plays.{GatheredAcceptLaw, GatheredBoardLaw, GatheredTurnLaw, PassedBy}
use Rattle.rcu_board.specs.Views.{Every, joined, seen_at}
use Rattle.rcu_board.specs.Words.{away_of, period_of, turns_word}
use Rattle.rcu_board.specs.declared.view.Own.{Own}
use Rattle.rcu_board.specs.declared.view.View.{View}

-- a view that takes in others, one after another
abbrev pub gather : View → List View → View
gather v [] = v
gather v (w ∷ ws) = gather (joined v w) ws

-- Processor p passed each grace period up to that of its last report word w, by a report or by being away; it knows that word where
-- it is here; and those that have ended by the number x are among these.
pub record IsAccounted (p x w : ℕ) (v : View) : Type 0 where
  pub passed : Every (λ (o : Own). o.cpu ≡ p → (s : ℕ) → s % 4 ≡ 1 → s ≤ period_of w → PassedBy s o) v.own
  pub here : Every (λ (o : Own). o.cpu ≡ p → away_of o.word ≡ 0 → o.word ≡ w) v.own
  pub ended : (s : ℕ) → s % 4 ≡ 1 → s < x → s ≤ period_of w

-- What the last loads tell of the one view that has taken in all, on a board for n processors whose last number is x.
pub record IsSettled (n x : ℕ) (v : View) : Type 0 where
  pub board : GatheredBoardLaw x v
  -- of each turn word, which no sight is above
  pub turns : (p : ℕ) → p < n → (turn : ℕ) × (seen_at v (turns_word p) ≤ turn) × GatheredTurnLaw p turn v
  -- of each accept word
  pub counts : (p : ℕ) → p < n → (accepts : ℕ) × GatheredAcceptLaw p accepts v
  -- of each report word
  pub reports : (p : ℕ) → p < n → (word : ℕ) × IsAccounted p x word v
