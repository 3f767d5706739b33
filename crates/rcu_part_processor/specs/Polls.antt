-- What a poll for a grace period asks for: docs/specification/rules.md, "Grace-period numbers".
use Rattle.std.specs.Prelude.{ℕ, ◌≤◌, Some}
use Rattle.rcu_board.specs.Plays.{looked}
use Rattle.rcu_board.specs.Views.{seen_at, sight}
use Rattle.rcu_board.specs.Words.{needed_word}
use Rattle.rcu_part_processor.specs.Processors.{view_of}
use Rattle.rcu_part_processor.specs.Ticks.{Asks}
use Rattle.rcu_part_processor.specs.declared.processor.ProcessorState.{ProcessorState}

-- One look, and then the step that asks for the cookie.
pub record AsksFor {J R : Type 0} (cookie : ℕ) (p q : ProcessorState J R) : Type 0 where
  pub asks : Asks (Some cookie) (looked (sight (view_of q)) (view_of p)) (view_of q)
  -- so that it is asked for
  pub needed : cookie ≤ seen_at (view_of q) needed_word
