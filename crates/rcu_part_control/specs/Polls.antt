-- What a poll for a grace period asks for: docs/specification/rules.md, "Grace-period numbers".
use Rattle.std.specs.Prelude.{◌≡◌, ℕ, ◌≤◌, max}
use Rattle.rcu_board.specs.Plays.{looked, touched}
use Rattle.rcu_board.specs.Views.{seen_at, sight}
use Rattle.rcu_board.specs.Words.{needed_word}
use Rattle.rcu_board.specs.declared.view.View.{View}

-- One look, and then the step that asks for the cookie, where so much had been asked for before.
pub record AsksForCookie (cookie : ℕ) (v w : View) : Type 0 where
  pub before : ℕ
  pub steps : w ≡ touched needed_word (max before cookie) (looked (sight w) v)
  -- so that it is asked for
  pub needed : cookie ≤ seen_at w needed_word
