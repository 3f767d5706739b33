-- What `quiescent` does: docs/specification/rules.md, "Quiescent reports".
use Rattle.std.specs.Prelude.{◌≡◌, ℕ, ◌+◌, ◌-◌, ◌*◌, ◌%◌, ◌≤◌, Option, Some, None}
use Rattle.rcu_board.specs.Plays.{looked, report_own, stepped_own}
use Rattle.rcu_board.specs.Seats.{own_word, reports_of}
use Rattle.rcu_board.specs.Words.{period_of, reports_word}
use Rattle.rcu_board.specs.declared.view.View.{View}

-- The look saw the grace period s in progress, for which processor p owed, and the step after it is the report.
pub record IsCounted (p s : ℕ) (v w : View) : Type 0 where
  pub step : w ≡ stepped_own report_own (reports_word p) (2 * s) (looked s v)
  pub busy : s % 4 ≡ 1
  pub owed : period_of (own_word v) ≡ s - 4
  pub word : own_word w ≡ 2 * s
  -- the grace period is that of the old count, and is counted
  pub number : s ≡ 4 * reports_of v + 1
  pub count : reports_of w ≡ reports_of v + 1

-- The look saw no grace period in progress for which p owes, and there is no other step.
pub record IsNotCounted (p : ℕ) (v w : View) : Type 0 where
  pub number : ℕ
  pub step : w ≡ looked number v
  pub served : number % 4 ≡ 1 → number ≤ period_of (own_word v)
  pub word : own_word w ≡ own_word v
  pub count : reports_of w ≡ reports_of v

abbrev pub Reports : ℕ → Option ℕ → View → View → Type 0
Reports p (Some s) v w = IsCounted p s v w
Reports p None v w = IsNotCounted p v w
